-- Strings as lists of bytes, and the table of the methods that are functions of them. Begin at Table; Ints and Characters
-- have further functions of bytes.
pub mod Texts
pub mod Places
pub mod Words
pub mod Strings
pub mod Table
pub mod Cuts
pub mod Characters
pub mod Ints
