pub mod Sheets
pub mod Steps
pub mod Back
pub mod Sizes
pub mod CellBytes
pub mod After
