pub mod Bytes
pub mod Loops
pub mod Ways
pub mod Spelled
pub mod Begins
pub mod Plains
