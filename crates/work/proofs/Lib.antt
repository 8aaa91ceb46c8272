pub mod Working
pub mod Replacing
