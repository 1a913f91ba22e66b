mod Entries
mod Deciding
mod Tables
pub mod Guards
mod Firsts
