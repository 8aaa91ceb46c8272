pub mod Counts
pub mod Fills
pub mod Runs
pub mod Calls
