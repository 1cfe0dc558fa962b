pub mod Lines
pub mod Unique
pub mod Joins
pub mod Texts
