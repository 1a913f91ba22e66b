pub mod Greatest
pub mod Values
