-- The answer of the parser for a text. Begin at Sources.
pub mod Nesting
pub mod Sources
pub mod Laws
