pub mod Positional
pub mod Called
pub mod Entering
pub mod OrderedShares
pub mod OrderedMade
pub mod OrderedFrames
pub mod OrderedRows
