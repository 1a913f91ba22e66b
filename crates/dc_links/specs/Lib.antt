pub mod Links
pub mod Puts
pub mod Rounds
pub mod Laying
pub mod Closing
