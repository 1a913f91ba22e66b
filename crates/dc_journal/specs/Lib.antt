pub mod Asks
pub mod Answered
pub mod Files
pub mod Replays
pub mod Steps
pub mod Open
