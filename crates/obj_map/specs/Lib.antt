pub mod Puts
pub mod Maps
pub mod Laws
