pub mod Faults
pub mod Letters
pub mod Names
pub mod Records
pub mod Files
pub mod Lines
pub mod Descriptions
pub mod Trees
