-- Places of a text, and what a mention means.
pub mod Contexts
pub mod Definitions
pub mod Within
pub mod Views
pub mod Meaning
