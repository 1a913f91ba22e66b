pub mod Conditions
pub mod Tests
