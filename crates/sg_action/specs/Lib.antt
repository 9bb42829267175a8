pub mod States
pub mod Opened
