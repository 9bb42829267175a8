pub mod Phys
