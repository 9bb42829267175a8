pub mod Serial
pub mod Log
pub mod Noted
pub mod Numbers
pub mod Named
