pub mod Walks
pub mod Slots
pub mod Totals
pub mod Cutting
pub mod Inverses
