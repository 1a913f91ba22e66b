pub mod Numbers
mod Matches
pub mod Spelled
