pub mod Logs
pub mod Places
pub mod RestParts
pub mod Tables
pub mod StampLists
