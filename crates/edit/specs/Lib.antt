pub mod Edits
pub mod Refusals
pub mod Call
pub mod Runs
pub mod Demand3
pub mod Theorems
pub mod Examples
pub mod Errors
