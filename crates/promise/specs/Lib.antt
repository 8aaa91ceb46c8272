pub mod Paper
pub mod Settled
pub mod Slices
