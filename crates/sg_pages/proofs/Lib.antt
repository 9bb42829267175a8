pub mod Zeros
pub mod Marking
