-- Words of the contracts of calls; their meaning is `Arguments`, `Calls` and `Binding` of star_meaning.
pub mod Callees
pub mod Found
pub mod EvaluatedArgument
pub mod Seen
pub mod BoundArguments
pub mod Steps
