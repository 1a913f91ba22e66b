pub mod Purposes
pub mod Playing
pub mod Errands
pub mod Fetches
pub mod BoundedSteps
