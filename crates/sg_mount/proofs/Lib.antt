pub mod Empty
pub mod Standing
pub mod Found
pub mod Opened
pub mod Firsts
