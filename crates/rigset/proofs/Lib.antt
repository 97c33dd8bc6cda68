pub mod Digits
pub mod Operations
pub mod Counts
pub mod Gathering
