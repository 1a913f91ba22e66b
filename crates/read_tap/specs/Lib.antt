pub mod Shows
pub mod Feeds
