pub mod Always
pub mod Searches
pub mod Tasks
