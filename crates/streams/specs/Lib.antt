pub mod Order
pub mod Sending
pub mod Unblank
