pub mod Orders
pub mod Taps
pub mod Sections
pub mod Runs
pub mod OneThread
pub mod Apart
