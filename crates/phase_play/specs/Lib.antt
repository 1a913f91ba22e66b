pub mod Blocks
pub mod Swaps
pub mod Casts
pub mod Begun
pub mod Crews
