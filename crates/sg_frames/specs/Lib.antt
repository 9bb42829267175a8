pub mod Zeros
pub mod Pieces
pub mod Slots
pub mod Tables
pub mod Ownership
pub mod Held
pub mod Lending
