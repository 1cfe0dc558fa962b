pub mod Augmented
pub mod Bound
pub mod Clauses
pub mod Fresh
pub mod Keys
pub mod Spends
pub mod Turns
