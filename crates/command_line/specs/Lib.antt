pub mod Forms
pub mod Apps
pub mod Texts
