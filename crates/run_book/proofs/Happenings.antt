-- What happens among several centres, and the book of it.
pub mod Entries
pub mod Places
pub mod Fits
pub mod Timely
pub mod More
pub mod Playing
pub mod Reach
pub mod Feeding
pub mod Steps
pub mod Sending
pub mod Carrying
pub mod OperatorSteps
pub mod Again
pub mod Trimming
pub mod WorkerRounds
pub mod Posts
