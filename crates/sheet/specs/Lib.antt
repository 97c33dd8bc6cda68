pub mod Meaning
pub mod Answers
pub mod Lists
pub mod Readings
pub mod Numbers
