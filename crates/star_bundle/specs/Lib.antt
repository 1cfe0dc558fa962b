-- The bundle that an input is, and the refusals of bundles.
pub mod Refusal
pub mod Bundle
pub mod View
