pub mod Posts
pub mod Rounds
