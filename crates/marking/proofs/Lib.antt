pub mod Orders
pub mod Slots
pub mod Carrying
pub mod MarkLines
pub mod Examples
