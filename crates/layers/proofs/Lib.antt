pub mod Orders
pub mod Unfilled
