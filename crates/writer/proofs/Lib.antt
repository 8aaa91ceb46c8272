pub mod Measured
pub mod Lined
pub mod Theorems
pub mod Examples
