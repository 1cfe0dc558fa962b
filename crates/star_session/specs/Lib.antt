pub mod Changes
pub mod Lines
pub mod Requests
pub mod Answers
pub mod Kept
pub mod Folders
pub mod Session
