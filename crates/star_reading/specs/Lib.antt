-- Words of the contracts of reading. The definition is `Reading` of star_plan.
pub mod Codes
pub mod Parsed
pub mod Readings
pub mod Found
pub mod Ahead
pub mod Listed
pub mod Record
