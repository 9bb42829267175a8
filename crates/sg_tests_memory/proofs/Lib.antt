pub mod Fresh
pub mod OneRow
pub mod Arrays
