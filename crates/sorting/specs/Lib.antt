pub mod Flat
pub mod Sorting
pub mod Weaving
pub mod Theorems
pub mod Examples
