pub mod Scripts
pub mod Feeds
pub mod Calls
pub mod Theorems
pub mod Examples
