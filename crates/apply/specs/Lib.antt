pub mod Demand3
pub mod Theorems
pub mod Examples
