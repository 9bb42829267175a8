pub mod Items
pub mod Two
