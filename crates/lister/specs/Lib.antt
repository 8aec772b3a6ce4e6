pub mod WordChoices
pub mod Waiting
pub mod WaitingLemmas
pub mod Listings
