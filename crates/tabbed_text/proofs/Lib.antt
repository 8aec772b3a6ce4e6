pub mod Chains
pub mod Decimals
pub mod Numerals
pub mod Splitting
pub mod Walking
pub mod NextLines
pub mod Placing
pub mod Words
