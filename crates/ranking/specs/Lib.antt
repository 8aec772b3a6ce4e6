pub mod Terms
pub mod Charges
pub mod Models
pub mod Weights
pub mod SetOrder
pub mod ModelsLemmas
