pub mod Found
pub mod Chunks
pub mod Arrays
pub mod Steps
pub mod Noting
pub mod Taken
