pub mod WrittenBack
pub mod Opened
pub mod Taking
pub mod Room
pub mod Grown
pub mod Segments
pub mod TakenOff
mod Tests
