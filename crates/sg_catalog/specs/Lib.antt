pub mod Row
pub mod Catalog
pub mod Look
pub mod Steps
pub mod Calls
pub mod Beside
