pub mod Applied
pub mod Outboxes
pub mod Centre
pub mod Parts
