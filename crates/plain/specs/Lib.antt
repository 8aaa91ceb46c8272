pub mod Meanings
pub mod Told
pub mod Theorems
pub mod Examples
