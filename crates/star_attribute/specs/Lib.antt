-- Words of the contracts of attributes, and of `format`: its fields, and reading on after a brace.
pub mod Attributes
pub mod Fields
pub mod Formats
