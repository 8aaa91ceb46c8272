pub mod Verdicts
pub mod Theorems
