pub mod Sums
pub mod Halls
pub mod Groups
pub mod Levels
pub mod Changes
pub mod Theorems
