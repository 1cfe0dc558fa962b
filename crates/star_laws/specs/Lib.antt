-- Laws of the definitions, in the subject's own words.
pub mod Division
pub mod Ranges
pub mod Keys
pub mod Calls
pub mod BoundArguments
pub mod Iterations
pub mod Dialects
pub mod Orders
pub mod Sets
