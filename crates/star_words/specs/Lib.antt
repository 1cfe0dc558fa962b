-- The labels that the words of a command line name.
pub mod Rows
pub mod Words
pub mod Named
pub mod Glob
pub mod Excluded
pub mod Below
