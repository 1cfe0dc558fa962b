-- Words of the contracts of results: modules, the products of files, and the run as a whole.
pub mod Fits
pub mod Reaches
pub mod Numbers
pub mod Paid
pub mod Globals
pub mod Views
pub mod Gathered
pub mod Refusals
pub mod Frames
pub mod Kept
pub mod Goods
pub mod GoodEnds
pub mod Homes
