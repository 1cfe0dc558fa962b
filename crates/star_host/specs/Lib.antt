-- Words of the contracts of the host: the world of a body, and the data that loaders share.
pub mod Bodies
pub mod Counts
pub mod Worlds
