pub mod Staying
pub mod Labels
pub mod Kept
pub mod Moving
pub mod ReadingsStay
pub mod Rows
pub mod SameData
pub mod EndsLast
