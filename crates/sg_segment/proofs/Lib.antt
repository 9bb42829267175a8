pub mod MarkBits
pub mod RunLists
pub mod SameMarks
