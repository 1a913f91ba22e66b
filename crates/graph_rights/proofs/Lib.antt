pub mod Images
pub mod Accounts
pub mod Sums
pub mod Rights
