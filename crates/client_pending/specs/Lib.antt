pub mod Indexes
pub mod Folding
