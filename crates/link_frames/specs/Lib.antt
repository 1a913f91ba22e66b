pub mod Spelling
pub mod Frames
pub mod Reading
pub mod Spoiling
pub mod Frame
