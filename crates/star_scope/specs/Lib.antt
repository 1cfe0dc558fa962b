-- The program of a file and its static faults. In reading order, after the files of star_outline: Places, Uses,
-- Placement, Conflicts, Loads, Faults, Resolve.
pub mod Faults
pub mod Placement
pub mod Loads
pub mod Conflicts
pub mod Bound
pub mod Uses
pub mod Places
pub mod Spots
pub mod Chains
pub mod ResolvedNames
pub mod Resolve
