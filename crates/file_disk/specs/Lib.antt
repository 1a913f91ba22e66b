pub mod Events
pub mod File
