pub mod Ending
pub mod Formed
pub mod Kept
pub mod Saying
pub mod Tallies
