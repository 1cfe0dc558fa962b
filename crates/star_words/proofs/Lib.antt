pub mod Members
pub mod Paths
pub mod Labels
pub mod Globs
pub mod Inside
pub mod Patterns
