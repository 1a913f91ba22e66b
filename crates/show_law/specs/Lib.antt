pub mod Subsequences
pub mod Fronts
pub mod Shows
