pub mod Operations
pub mod Partings
pub mod Points
pub mod PointParts
