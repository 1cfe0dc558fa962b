-- The message for a person about a run that stopped, and the search for its files.
pub mod Trail
pub mod Unseen
