pub mod Finds
pub mod PlaceOrders
