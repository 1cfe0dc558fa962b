pub mod Goods
pub mod Fails
pub mod NoFloat
pub mod Stores
pub mod Shows
pub mod Members
pub mod Wells
pub mod Sheets
pub mod Planned
pub mod Nothing
pub mod OneText
pub mod Tables
pub mod Gets
pub mod ComponentMarks
pub mod ComponentFrames
pub mod ComponentSearch
pub mod ComponentCloses
pub mod ComponentSteps
pub mod ComponentsAll
pub mod Drawings
pub mod Edges
pub mod Lines
pub mod Told
pub mod Reported
mod SaidRows
mod CallRows
