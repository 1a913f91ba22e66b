pub mod Blocks
pub mod Spelled
pub mod Rows
pub mod MadeLines
pub mod Counts
pub mod MadeScripts
