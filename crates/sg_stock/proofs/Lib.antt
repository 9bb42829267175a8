pub mod Apart
pub mod Sums
pub mod Bounds
pub mod Rising
pub mod Leaving
