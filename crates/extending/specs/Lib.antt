pub mod Extend
