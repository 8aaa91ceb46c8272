pub mod Cutting
pub mod Inserting
pub mod Deleting
pub mod Replacing
