pub mod Places
pub mod OneLink
pub mod Sending
pub mod Taking
pub mod Laying
pub mod Closing
