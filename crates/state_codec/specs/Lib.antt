pub mod Spelling
pub mod Reading
pub mod Fronts
pub mod Plain
