pub mod Draws
pub mod Lines
pub mod Made
pub mod Rows
pub mod MadeScripts
