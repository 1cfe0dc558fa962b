-- Trails says which steps of a fault a message may have.
pub mod Trails
