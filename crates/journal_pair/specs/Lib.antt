pub mod Causes
pub mod Choices
pub mod Entries
pub mod Faults
pub mod Files
pub mod Marks
pub mod Numbers
pub mod Pairs
