pub mod Fives
pub mod Builds
