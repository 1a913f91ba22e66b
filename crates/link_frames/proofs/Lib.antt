pub mod Fitting
pub mod Items
pub mod Whole
