pub mod Reached
pub mod Steps
pub mod Tabled
pub mod Played
pub mod Promises
