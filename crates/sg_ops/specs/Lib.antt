pub mod AddLaw
pub mod Laws
pub mod Meaning
pub mod RotateLaw
pub mod Shipped
pub mod Table
pub mod XorLaw
pub mod Steps
