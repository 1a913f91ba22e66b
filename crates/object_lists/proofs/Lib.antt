mod Turned
pub mod Ops
