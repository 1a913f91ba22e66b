pub mod Centres
pub mod KeptDoors
