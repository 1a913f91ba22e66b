pub mod Growing
pub mod Rounds
pub mod Turns
pub mod Passing
pub mod Seating
pub mod Among
pub mod Reading
pub mod Feeders
