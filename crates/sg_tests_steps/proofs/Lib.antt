pub mod Going
pub mod Knowing
