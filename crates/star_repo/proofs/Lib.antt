pub mod Rows
pub mod Reached
pub mod Refusals
pub mod Inserted
pub mod Ways
pub mod Labels
pub mod Steps
pub mod Loads
pub mod Settled
pub mod Kept
pub mod Parts
pub mod Ended
pub mod Turns
pub mod SameWords
pub mod Texts
mod Fronts
