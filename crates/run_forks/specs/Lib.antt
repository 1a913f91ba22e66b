pub mod Forks
pub mod Answered
