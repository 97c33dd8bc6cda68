pub mod Format
pub mod Verdicts
pub mod Texts
pub mod Numbers
pub mod Parts
pub mod Drafts
