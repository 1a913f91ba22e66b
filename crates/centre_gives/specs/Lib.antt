pub mod Parts
pub mod Giving
