pub mod Feeds
pub mod Holding
pub mod Wholes
pub mod Ends
pub mod Closings
pub mod Theorems
pub mod Examples
