pub mod Sets
pub mod Names
pub mod Lines
pub mod Rules
pub mod Holding
