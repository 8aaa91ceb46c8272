pub mod Dispatch
pub mod Handed
pub mod Demand3
pub mod Theorems
pub mod Examples
