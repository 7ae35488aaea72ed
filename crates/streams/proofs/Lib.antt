pub mod Ordered
pub mod Sending
pub mod Unblanking
