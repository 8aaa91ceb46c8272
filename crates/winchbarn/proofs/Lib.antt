pub mod Tellings
pub mod Theorems
pub mod Examples
