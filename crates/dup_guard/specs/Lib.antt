pub mod Notes
pub mod Parts
