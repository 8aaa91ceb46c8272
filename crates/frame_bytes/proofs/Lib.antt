pub mod Pasted
pub mod Listed
pub mod Framed
