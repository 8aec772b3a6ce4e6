pub mod Forests
pub mod Items
pub mod Rows
pub mod Turns
pub mod Calls
pub mod AnySequence
pub mod Sort
