pub mod Origins
pub mod Theorems
pub mod Examples
