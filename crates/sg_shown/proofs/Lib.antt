pub mod History
pub mod Reached
pub mod Spared
pub mod Holding
pub mod Calls
pub mod Places
pub mod Leaving
