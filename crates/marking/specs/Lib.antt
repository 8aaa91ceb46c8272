pub mod Slots
pub mod Carries
pub mod InOrder
pub mod MarkLines
pub mod Examples
