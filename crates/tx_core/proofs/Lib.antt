pub mod Fits
pub mod Folds
pub mod Live
pub mod Sets
pub mod Maps
pub mod Values
pub mod Operations
