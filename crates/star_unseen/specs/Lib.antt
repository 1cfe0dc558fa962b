-- A run does not depend on what is hidden from it. Begin at Veil.
pub mod Veil
pub mod Shelves
pub mod Laws
