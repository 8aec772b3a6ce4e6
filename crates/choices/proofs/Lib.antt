pub mod Choosing
pub mod Table
