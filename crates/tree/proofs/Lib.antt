pub mod Sets
pub mod Spelling
pub mod Told
pub mod Holding
pub mod Words
pub mod Lowest
pub mod Members
