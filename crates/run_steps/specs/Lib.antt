pub mod Logs
pub mod Calls
pub mod Looks
pub mod Quiet
