pub mod BuiltIns
pub mod Frames
pub mod Near
pub mod InOrder
pub mod ProgramRows
pub mod Rows
