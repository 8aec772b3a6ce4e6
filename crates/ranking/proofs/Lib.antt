pub mod Cents
pub mod Weights
pub mod SetOrders
