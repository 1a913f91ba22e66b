pub mod Casts
pub mod Closing
pub mod Lending
pub mod Tables
pub mod Played
pub mod Taps
