pub mod Full
pub mod Silent
