pub mod Lists
pub mod Kept
pub mod Meeting
pub mod Growing
pub mod Listing
pub mod Restoring
pub mod Ready
