pub mod Writes
pub mod Layout
