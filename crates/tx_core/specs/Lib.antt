pub mod Checks
pub mod Objects
pub mod Ops
pub mod States
pub mod Operations
pub mod Updates
