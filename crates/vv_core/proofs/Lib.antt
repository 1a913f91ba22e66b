pub mod Entrywise
pub mod Covering
pub mod Reaching
pub mod Sound
pub mod Least
