pub mod Fields
pub mod Numbers
pub mod Questions
pub mod Remains
pub mod Writing
pub mod Whole
