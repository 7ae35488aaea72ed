pub mod Layout
pub mod Sources
pub mod Writes
pub mod View
pub mod Calls
pub mod Walks
pub mod Sweeps
pub mod Standing
