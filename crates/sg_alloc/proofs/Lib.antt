pub mod Counted
pub mod Summaries
pub mod Marks
