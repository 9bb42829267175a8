pub mod Arrays
pub mod Tables
pub mod Shown
pub mod Replies
pub mod Undone
pub mod Whole
