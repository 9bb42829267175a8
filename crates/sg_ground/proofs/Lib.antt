pub mod Lawful
mod Wants
pub mod Collections
pub mod Done
pub mod Notes
pub mod Fields
pub mod Buried
pub mod Graves
pub mod Freed
pub mod Stocked
pub mod Clauses
