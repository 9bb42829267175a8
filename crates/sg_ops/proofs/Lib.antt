pub mod EntryLaws
pub mod FillLaw
pub mod Finds
pub mod Lookups
pub mod Parts
pub mod Rendering
pub mod Ripple
