pub mod Marks
pub mod Steps
pub mod Lines
pub mod Most
pub mod Bounds
pub mod Needs
pub mod Laws
