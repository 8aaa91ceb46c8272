pub mod Steps
pub mod Kinds
pub mod Numbers
pub mod Resolves
pub mod Theorems
