pub mod Blob
pub mod Raw
pub mod Steps
pub mod Calls
pub mod Beside
