pub mod Moments
pub mod Choices
pub mod Firsts
pub mod Members
pub mod Apart
pub mod Permutations
pub mod Padded
