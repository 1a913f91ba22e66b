pub mod CellNames
pub mod Pushing
pub mod Wrapping
pub mod CellExamples
