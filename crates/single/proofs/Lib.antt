pub mod Cutting
pub mod Resolving
