pub mod Tables
pub mod Examples
pub mod Stops
pub mod Widths
