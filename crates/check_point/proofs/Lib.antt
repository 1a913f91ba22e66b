pub mod Entries
pub mod Advancing
pub mod Orders
pub mod Partings
mod TakingApart
