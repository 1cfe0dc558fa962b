-- Words of the contracts of the built-in functions; their meaning is `BuiltIns` of star_meaning.
pub mod Best
pub mod Decoding
pub mod Dicts
pub mod Forms
pub mod Orders
pub mod Parts
