-- Words of the contract of a file's run; its meaning is `Module` of star_meaning.
pub mod Globals
pub mod Outcomes
