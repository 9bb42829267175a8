pub mod Kept
pub mod Buffers
pub mod Script
pub mod Feeding
pub mod Ending
pub mod Course
pub mod Seen
