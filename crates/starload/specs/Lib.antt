-- The options of a command line.
pub mod Options
