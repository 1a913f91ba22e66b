pub mod Caches
pub mod Peeks
pub mod Tables
pub mod CacheEnds
