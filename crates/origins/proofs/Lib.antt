pub mod Values
pub mod Fresh
pub mod Stood
pub mod Theorems
pub mod Examples
