pub mod Outside
pub mod Layouts
pub mod Step
pub mod Changes
pub mod Kept
pub mod Room
pub mod Refusals
pub mod InPlace
