pub mod Cuts
pub mod Cutting
pub mod Local
pub mod Deleted
