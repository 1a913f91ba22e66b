pub mod Keeping
pub mod One
pub mod Checkpoints
pub mod Following
pub mod Starting
pub mod Opened
