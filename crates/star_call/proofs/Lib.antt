pub mod Found
pub mod Kept
pub mod Named
pub mod Seen
pub mod Steps
pub mod Defined
