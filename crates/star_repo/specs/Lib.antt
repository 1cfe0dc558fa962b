-- The files that roots reach in a folder, and the one refusal. Begin at Reach and Refusal.
pub mod Held
pub mod Memory
pub mod Loading
pub mod Reach
pub mod Refusal
pub mod Text
pub mod Laws
pub mod Parsed
pub mod Way
pub mod Views
pub mod Turn
pub mod Asked
pub mod Below
