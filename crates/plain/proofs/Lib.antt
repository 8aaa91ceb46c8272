pub mod Items
pub mod Theorems
pub mod Examples
pub mod Boxes
