pub mod HostDoors
pub mod Hosts
