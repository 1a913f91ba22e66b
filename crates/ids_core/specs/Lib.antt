pub mod Ascending
pub mod Ids
pub mod Kinds
pub mod Name
pub mod Orders
pub mod Padded
pub mod Same
pub mod Tags
