pub mod Apart
pub mod Ways
pub mod Rings
pub mod Walks
pub mod Settles
pub mod Leads
