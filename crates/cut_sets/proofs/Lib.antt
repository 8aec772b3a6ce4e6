pub mod Cuts
pub mod Ways
pub mod Listing
pub mod Steps
pub mod Runs
pub mod Examples
