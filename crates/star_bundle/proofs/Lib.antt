pub mod OneFile
pub mod Labels
pub mod Members
pub mod ByLabel
pub mod Numbers
pub mod Passed
