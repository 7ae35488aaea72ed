pub mod Tags
pub mod Faults
pub mod Words
pub mod Items
pub mod Numbered
pub mod Tokens
