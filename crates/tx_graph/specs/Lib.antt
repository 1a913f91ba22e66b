pub mod Nodes
pub mod Values
pub mod Acts
pub mod Unseen
