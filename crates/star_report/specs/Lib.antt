-- Words of the contracts of the report, whose text is `Text` of star_plan. Wanted, Got, Graph and Output define the
-- additions of the options.
pub mod Fails
pub mod Joined
pub mod Calls
pub mod Shown
pub mod Pages
pub mod Values
pub mod Wanted
pub mod Shelf
pub mod Texts
pub mod Table
pub mod Got
pub mod Gets
pub mod Components
pub mod Search
pub mod Graph
pub mod Drawn
pub mod Output
pub mod Laws
