pub mod Draws
pub mod Texts
pub mod Lines
pub mod Calls
