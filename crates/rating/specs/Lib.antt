pub mod Ratings
pub mod Sheets
