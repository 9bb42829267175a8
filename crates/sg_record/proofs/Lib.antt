pub mod Laws
pub mod Parsing
pub mod Read
pub mod Written
