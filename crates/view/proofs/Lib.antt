pub mod Theorems
pub mod Examples
pub mod Wides
