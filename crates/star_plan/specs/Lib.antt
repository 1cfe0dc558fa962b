-- The outcomes, causes and report of many files. In reading order: Plan, Reached, Reading, Results, Causes, Report,
-- Text.
pub mod Plan
pub mod Reading
pub mod Results
pub mod Reached
pub mod Shelves
pub mod Causes
pub mod Report
pub mod Text
pub mod Runs
pub mod Laws
