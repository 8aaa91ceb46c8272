pub mod Rfc3629
pub mod Lead
pub mod Reading
pub mod Answers
pub mod Calls
pub mod Theorems
pub mod Examples
