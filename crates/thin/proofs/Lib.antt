pub mod Updates
pub mod Theorems
