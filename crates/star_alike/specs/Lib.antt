-- Reports of a session as those of a process.
pub mod Bundles
pub mod Laws
