pub mod Answers
pub mod Kinds
pub mod Call
pub mod Theorems
pub mod Examples
