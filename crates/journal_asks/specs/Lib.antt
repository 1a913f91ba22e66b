pub mod Props
pub mod Spellings
pub mod Asks
