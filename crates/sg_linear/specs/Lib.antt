pub mod Fnv
pub mod Extent
pub mod Address
