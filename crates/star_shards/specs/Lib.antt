-- Joins of reports. In reading order: Places, Entries, Lines, Joined; Read and Written have what the code keeps, Data what
-- laws say of the text of JSON.
pub mod Places
pub mod Entries
pub mod Lines
pub mod Joined
pub mod Read
pub mod Written
pub mod Data
