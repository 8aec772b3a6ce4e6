pub mod Cuts
pub mod Ways
pub mod WaitingRule
pub mod Laws
pub mod NextSets
pub mod WorkedExamples
