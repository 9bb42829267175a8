pub mod Newest
pub mod Running
mod Clearing
pub mod Backing
