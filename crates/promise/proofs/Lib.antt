pub mod Settled
pub mod Bools
pub mod Lists
