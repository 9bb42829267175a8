pub mod Accounts
pub mod Areas
pub mod Disk
pub mod Due
pub mod Heeds
pub mod Memory
