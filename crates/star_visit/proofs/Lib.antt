pub mod Equals
pub mod Members
pub mod Orders
pub mod Sheets
pub mod Sorting
pub mod Texts
