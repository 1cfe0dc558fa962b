pub mod Drafts
pub mod Pages
pub mod Sheets
