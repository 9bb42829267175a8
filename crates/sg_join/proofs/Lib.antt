pub mod Fronts
pub mod Keeping
pub mod Undoing
pub mod Histories
pub mod Points
