pub mod Frames
pub mod Theorems
pub mod Examples
