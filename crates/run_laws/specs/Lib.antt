pub mod OneBook
pub mod ReadLines
pub mod Looks
