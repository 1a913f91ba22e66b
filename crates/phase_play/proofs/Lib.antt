pub mod Cutting
pub mod Swapping
pub mod Ending
pub mod Rows
