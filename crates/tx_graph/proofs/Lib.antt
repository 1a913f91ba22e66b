pub mod Deltas
pub mod SameValues
pub mod LastWords
pub mod PairsOfPuts
pub mod UnseenActs
pub mod Ascending
pub mod AscendingNames
