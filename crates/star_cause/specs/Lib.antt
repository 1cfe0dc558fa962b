-- Words of the contract of causes. Their definition is `Causes` of star_plan.
pub mod Ways
pub mod Ends
pub mod Causes
