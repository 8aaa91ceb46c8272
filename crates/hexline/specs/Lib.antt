pub mod Digits
pub mod Calls
pub mod Theorems
pub mod Examples
