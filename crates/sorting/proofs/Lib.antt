pub mod Sorted
pub mod Flats
pub mod Halves
pub mod Weaves
pub mod Theorems
pub mod Examples
