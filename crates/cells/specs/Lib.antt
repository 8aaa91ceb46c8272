pub mod Wide
pub mod Cells
pub mod Theorems
pub mod Examples
