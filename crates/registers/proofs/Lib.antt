pub mod Answering
pub mod WrittenLists
pub mod Asked
pub mod WrittenSplices
pub mod WrittenParts
pub mod WrittenFiles
pub mod WrittenBack
