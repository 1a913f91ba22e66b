pub mod Deciding
mod Dots
pub mod Firsts
