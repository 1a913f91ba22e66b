pub mod LastReads
