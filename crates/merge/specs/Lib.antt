pub mod Merging
pub mod Call
pub mod Theorems
pub mod Examples
