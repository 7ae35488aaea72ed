pub mod Held
pub mod Promises
pub mod After
pub mod Asked
pub mod Finished
pub mod Stepped
pub mod Played
pub mod Taken
