pub mod Live
pub mod Order
pub mod Codes
pub mod Slots
