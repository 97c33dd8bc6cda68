pub mod Layers
pub mod Changes
pub mod Judgements
pub mod Sheets
