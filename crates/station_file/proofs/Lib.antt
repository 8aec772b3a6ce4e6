pub mod NameWords
pub mod Reading
pub mod FileReads
pub mod Keeping
pub mod Describing
pub mod Accepting
pub mod Exactness
