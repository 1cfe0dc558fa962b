pub mod Judgements
pub mod Rows
pub mod Shown
