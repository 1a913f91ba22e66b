pub mod Streams
pub mod Stores
