pub mod Again
pub mod Lives
pub mod Running
pub mod Making
pub mod Over
