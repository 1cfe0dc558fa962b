-- The outcome of a file depends only on what it needs. Begin at Agree, then Ends.
pub mod Agree
pub mod Laws
pub mod Ends
pub mod Texts
pub mod Changed
