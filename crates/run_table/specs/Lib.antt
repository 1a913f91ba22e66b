pub mod Framing
pub mod Dealing
pub mod Works
pub mod Taps
pub mod Tables
