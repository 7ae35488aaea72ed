pub mod Lowest
pub mod Records
pub mod Rules
