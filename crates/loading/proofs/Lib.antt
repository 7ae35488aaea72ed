pub mod LoadLists
pub mod LoadArrays
pub mod LoadCopies
pub mod LoadSource
pub mod LoadWords
pub mod LoadKept
