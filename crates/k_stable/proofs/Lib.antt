pub mod Rows
pub mod Least
pub mod Learning
pub mod Sound
pub mod Later
