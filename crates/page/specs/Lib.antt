pub mod Faults
pub mod Orders
pub mod Tasks
pub mod Pages
pub mod Answers
