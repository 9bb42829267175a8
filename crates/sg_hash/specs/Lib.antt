pub mod Table
pub mod Calls
pub mod Steps
pub mod Beside
pub mod Splits
