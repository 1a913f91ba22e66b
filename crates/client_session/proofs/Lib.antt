pub mod Following
pub mod Changing
mod Found
mod Held
mod Standing
