pub mod States
pub mod Loads
pub mod Calls
pub mod Examples
