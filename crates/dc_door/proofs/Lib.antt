pub mod NewCentres
pub mod Trails
