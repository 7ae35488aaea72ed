pub mod Problem
pub mod Seen
pub mod Held
pub mod Shown
pub mod Layout
pub mod Accepts
pub mod Tokens
pub mod Sides
