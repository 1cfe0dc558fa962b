-- Words of the contracts of operators; their meaning is Operators, Percent and Subscript of star_meaning.
pub mod Fills
pub mod Operands
pub mod Reached
pub mod Slices
pub mod Wanted
