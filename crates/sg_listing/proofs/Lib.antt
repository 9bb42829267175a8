pub mod Telling
pub mod Parts
pub mod Entries
pub mod Told
pub mod Named
pub mod Written
