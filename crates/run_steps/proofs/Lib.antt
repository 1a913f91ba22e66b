pub mod Places
pub mod Who
pub mod TheirSteps
pub mod Chains
pub mod PlainLines
pub mod EachDeed
pub mod Quiet
