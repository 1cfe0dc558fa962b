pub mod Walks
pub mod Bounded
pub mod Cycles
pub mod Meets
pub mod Lists
pub mod Begin
pub mod RowsLemmas
pub mod BeginRows
pub mod Await
pub mod Ask
pub mod Settle
pub mod Abandon
pub mod New
pub mod Headlines
mod Counts
mod SeatRows
