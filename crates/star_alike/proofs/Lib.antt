pub mod Sessions
pub mod Bundles
pub mod Orders
