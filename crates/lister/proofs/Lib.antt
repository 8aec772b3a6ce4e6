pub mod ListedChoices
pub mod Adding
pub mod Weighed
