pub mod Items
pub mod States
pub mod Causes
pub mod Replays
pub mod Faults
pub mod Open
