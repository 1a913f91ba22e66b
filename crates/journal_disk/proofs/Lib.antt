pub mod Fronts
pub mod Histories
pub mod Steps
pub mod Torn
