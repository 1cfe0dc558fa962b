-- The dialects of the language, by their words.
pub mod Words
