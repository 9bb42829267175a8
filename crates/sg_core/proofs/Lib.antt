pub mod Order
pub mod Slots
pub mod Kept
pub mod Callers
