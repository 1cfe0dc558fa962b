-- The book of the cache and its calls. `Headline` has the main promise. In reading order: State, Step, Seats, Headline.
pub mod Walk
pub mod State
pub mod Rows
pub mod Step
pub mod Tells
pub mod Ring
pub mod Seats
pub mod Headline
