pub mod Plans
pub mod Both
