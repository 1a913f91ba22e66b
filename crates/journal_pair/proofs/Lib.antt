pub mod Choosing
pub mod Marks
pub mod Pairs
pub mod Seating
pub mod Starting
pub mod States
pub mod Taking
