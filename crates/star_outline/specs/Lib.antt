pub mod Names
pub mod Syntax
pub mod Outlines
pub mod Index
pub mod Binders
pub mod Definitions
