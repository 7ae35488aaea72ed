pub mod Register
pub mod Layout
pub mod Outline
pub mod Shown
