pub mod Starts
pub mod Puts
pub mod Putting
pub mod Reached
pub mod Local
pub mod Moved
