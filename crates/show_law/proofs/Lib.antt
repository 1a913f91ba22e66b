mod Staying
mod Rising
pub mod Subsequences
mod Fronts
pub mod Feeding
mod Showing
