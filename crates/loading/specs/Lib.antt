pub mod LoadedWords
pub mod Taking
