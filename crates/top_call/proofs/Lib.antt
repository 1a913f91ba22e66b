pub mod Pieces
pub mod Owing
