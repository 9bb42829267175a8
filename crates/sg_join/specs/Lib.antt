pub mod Join
pub mod Joint
pub mod Points
pub mod Claims
