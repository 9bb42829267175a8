pub mod Looks
pub mod Telling
