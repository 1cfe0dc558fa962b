-- The schedule of files, and what a search keeps.
pub mod Schedules
pub mod Searches
