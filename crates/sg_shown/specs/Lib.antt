pub mod Taken
pub mod Shown
pub mod Room
pub mod Spare
