pub mod Marks
pub mod Bodies
pub mod Rows
pub mod Paging
pub mod Counts
