pub mod Picking
pub mod Framed
pub mod Spelled
pub mod Items
pub mod PlainParts
pub mod PointKinds
