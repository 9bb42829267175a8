pub mod Keys
pub mod Apps
pub mod Values
pub mod Simple
pub mod Taken
pub mod Reading
pub mod Fit
