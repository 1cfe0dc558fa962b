pub mod ByName
pub mod InSlots
pub mod Last
pub mod Outcomes
pub mod Stable
pub mod Texts
