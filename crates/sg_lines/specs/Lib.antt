pub mod Text
pub mod Summed
pub mod Parts
pub mod Added
pub mod Heard
pub mod Claims
