pub mod Items
pub mod Cells
mod Numbers
mod Owns
mod Placed
mod RestParts
mod Reaching
mod Sweeping
mod Taking
mod Found
mod Keeping
