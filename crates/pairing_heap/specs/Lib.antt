pub mod Index
pub mod Forests
pub mod Links
pub mod Heaps
pub mod Calls
pub mod Sorting
