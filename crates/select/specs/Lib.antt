pub mod Sels
pub mod Selections
pub mod Answers
pub mod Theorems
pub mod Examples
