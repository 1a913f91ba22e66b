pub mod Splits
pub mod LogSplits
pub mod StandFor
pub mod KeptLogs
pub mod Served
pub mod Mines
