pub mod Rows
pub mod Joins
pub mod Reached
pub mod Reports
pub mod More
pub mod Shown
pub mod Texts
pub mod Answers
