pub mod Growing
pub mod Written
pub mod Summing
pub mod Parting
pub mod Writing
pub mod Adding
