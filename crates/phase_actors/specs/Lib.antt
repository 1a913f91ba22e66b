pub mod Playing
pub mod Scenes
pub mod Taps
pub mod Workers
pub mod Clients
pub mod Actors
