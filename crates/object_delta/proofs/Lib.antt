pub mod Deltas
pub mod Passing
