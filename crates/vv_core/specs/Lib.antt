pub mod Vectors
pub mod Stamps
