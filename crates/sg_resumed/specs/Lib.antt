pub mod Walking
pub mod Taking
