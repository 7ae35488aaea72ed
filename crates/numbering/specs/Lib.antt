pub mod Listed
pub mod Marked
pub mod Count
