pub mod Folding
pub mod Trails
pub mod Seen
