pub mod Unkept
pub mod Trails
pub mod Replaying
pub mod Reading
pub mod Keeping
pub mod Opened
pub mod Stepping
pub mod Published
