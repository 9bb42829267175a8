pub mod History
pub mod Leaf
pub mod Named
pub mod Page
pub mod Places
pub mod Units
pub mod Window
pub mod Well
