pub mod Unread
pub mod Looks
pub mod Exact
