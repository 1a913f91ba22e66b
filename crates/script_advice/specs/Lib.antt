pub mod Shown
pub mod Advice
