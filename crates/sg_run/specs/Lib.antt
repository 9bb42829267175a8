pub mod Answer
pub mod Run
pub mod Serial
pub mod Kept
pub mod Noted
pub mod Numbers
pub mod Stocked
pub mod Named
