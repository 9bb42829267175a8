pub mod Offs
pub mod Walks
