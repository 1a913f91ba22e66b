pub mod Folds
pub mod Promoting
pub mod Tables
