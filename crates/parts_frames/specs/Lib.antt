pub mod Ranges
pub mod Far
