pub mod Shifts
pub mod Lines
pub mod Examples
