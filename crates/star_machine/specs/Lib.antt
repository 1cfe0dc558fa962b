-- Words of the contracts of the machine; `Refines` is in nearly all contracts above it.
pub mod Cuts
pub mod DictBuilder
pub mod Refines
pub mod Kinds
pub mod Pairs
pub mod Search
pub mod Settings
pub mod Shown
