pub mod Keeps
pub mod Theorems
pub mod Calls
pub mod Examples
