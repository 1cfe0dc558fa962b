pub mod Options
pub mod Stays
pub mod Parts
pub mod Builds
pub mod Sent
pub mod Rows
pub mod Fields
pub mod Ints
pub mod Strings
pub mod Rising
mod Elements
mod Equal
mod OneJson
mod Back
mod Reading
mod Size
