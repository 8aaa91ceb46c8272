pub mod Overlaps
pub mod Spans
pub mod Theorems
pub mod Examples
