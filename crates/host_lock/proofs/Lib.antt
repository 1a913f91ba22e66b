pub mod Seats
pub mod Histories
pub mod Steps
pub mod Hosts
