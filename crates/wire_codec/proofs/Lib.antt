pub mod Joining
pub mod Stopping
pub mod Spells
pub mod FieldsSpelled
pub mod FramesSpelled
pub mod Loops
pub mod ByFields
pub mod Answering
