pub mod Callers
pub mod Groups
pub mod Just
pub mod Joining
pub mod Histories
pub mod Openings
