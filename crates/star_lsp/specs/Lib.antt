pub mod Diagnostic
pub mod Message
pub mod Overlay
pub mod Place
