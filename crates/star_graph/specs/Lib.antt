-- The lines of the graph of loads.
pub mod Line
