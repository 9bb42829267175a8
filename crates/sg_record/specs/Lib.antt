pub mod Changes
pub mod Records
pub mod Ranges
pub mod Texts
pub mod Reading
pub mod Shown
