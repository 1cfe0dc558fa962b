-- The answer of the program: Serve for bundles and folders by a walk, Repo for files on demand.
pub mod Stream
pub mod Trace
pub mod Progress
pub mod Written
pub mod Serve
pub mod Repo
