pub mod Deltas
pub mod Passed
