pub mod Checkpoints
pub mod Cutting
