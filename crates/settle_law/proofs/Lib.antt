pub mod Answers
pub mod Reached
pub mod Lacking
pub mod Settled
