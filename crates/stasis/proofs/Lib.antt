pub mod Arrays
pub mod Tables
pub mod Telling
pub mod Opening
pub mod Settling
pub mod Closed
