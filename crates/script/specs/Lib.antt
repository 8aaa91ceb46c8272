pub mod Courses
pub mod Calls
pub mod Undo
pub mod Theorems
pub mod Examples
