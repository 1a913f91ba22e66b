pub mod Takings
pub mod Steps
pub mod Holders
