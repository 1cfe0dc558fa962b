pub mod Parses
pub mod Outcomes
pub mod Compared
pub mod Readings
pub mod Lasting
