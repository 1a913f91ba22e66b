pub mod Marks
pub mod Logs
