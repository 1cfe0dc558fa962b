-- The JSON of values, and laws of it. Begin at Data.
pub mod Data
pub mod Counts
pub mod Parts
pub mod Paths
pub mod Texts
pub mod Rows
pub mod Stores
pub mod Reading
pub mod Laws
