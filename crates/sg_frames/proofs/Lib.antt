mod Cutting
mod Entries
mod Halves
pub mod Lent
mod Lodging
mod Lying
mod Pairs
mod Runs
mod Through
mod Vecs
mod Walks
