pub mod Fitting
pub mod Fronts
