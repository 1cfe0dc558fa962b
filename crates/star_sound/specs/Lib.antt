-- Sound says which files have all that they need. Waiting has the facts while they are sought.
pub mod Sound
pub mod Waiting
