pub mod Batch
pub mod Faults
pub mod Layout
pub mod Reads
pub mod Superblock
