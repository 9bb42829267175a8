pub mod Listing
pub mod Logs
pub mod Faults
