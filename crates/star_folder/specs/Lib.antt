-- The files of a folder by its whole walk, and the refusals of a walk. Begin at Walk.
pub mod Folder
pub mod Walk
pub mod Refusal
pub mod Views
pub mod Memory
pub mod Laws
pub mod Disk
pub mod Drive
