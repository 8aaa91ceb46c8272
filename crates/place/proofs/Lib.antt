pub mod InPlace
pub mod ByHeads
pub mod Examples
