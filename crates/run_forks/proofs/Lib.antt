pub mod Deciding
pub mod Forks
pub mod ClientForks
pub mod FeedForks
pub mod OperatorForks
pub mod WorkerForks
pub mod OneRun
pub mod Books
