-- Words of the contracts of the evaluator; the meaning by spots is `World` of star_world over star_meaning.
pub mod Calling
pub mod Forms
pub mod Steps
pub mod Merges
