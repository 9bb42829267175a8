pub mod Text
pub mod Records
pub mod Node
pub mod Order
pub mod Tree
pub mod Fault
pub mod Index
pub mod Change
