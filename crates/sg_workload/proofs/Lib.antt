pub mod Opening
pub mod Copies
pub mod Drawing
pub mod Left
pub mod Taken
