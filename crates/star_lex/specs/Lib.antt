-- The tokens of a text. In reading order: Tokens (words and signs), Values (ints and strings), Pieces, Lines. Signs and
-- Places are for the code: signs by their first byte, and what is still to come at a place in a line.
pub mod Lines
pub mod Pieces
pub mod Places
pub mod Signs
pub mod Tokens
pub mod Values
