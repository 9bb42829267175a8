pub mod Again
pub mod Points
pub mod Lives
pub mod OpenedOver
pub mod Making
pub mod Over
pub mod Always
