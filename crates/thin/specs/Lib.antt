pub mod Stands
pub mod Theorems
