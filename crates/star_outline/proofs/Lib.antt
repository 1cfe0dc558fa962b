pub mod Numbers
pub mod Turns
pub mod BoundNames
pub mod OutlineLevels
pub mod FirstPlaces
pub mod OutlineFound
pub mod OutlineStatements
pub mod OwnLoads
pub mod Differ
mod Noted
