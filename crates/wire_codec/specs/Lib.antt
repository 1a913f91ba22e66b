pub mod Fields
pub mod Grammar
pub mod Spelling
pub mod Answers
pub mod Reading
