pub mod Orders
pub mod Ascending
pub mod Distinct
pub mod Folds
pub mod Dots
pub mod Names
