-- Words of the contracts of the methods; their meaning is ListMethods, DictMethods and TextMethods of star_meaning.
pub mod Choices
pub mod Cuts
pub mod Ends
pub mod Sets
