-- The environment of a run (World), new functions (Closures), and the layouts of parameters (Orders, LaidOut).
pub mod Closures
pub mod LaidOut
pub mod Orders
pub mod World
