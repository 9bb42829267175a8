pub mod Taken
pub mod Bodies
pub mod Frames
pub mod Read
