-- Words of the contracts of entering a call. All say that the result is the one that `Binding` of star_meaning defines.
pub mod Positional
pub mod Entering
pub mod Ordered
