pub mod Sequences
pub mod Counts
pub mod Fills
pub mod Calls
