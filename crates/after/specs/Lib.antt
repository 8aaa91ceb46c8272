pub mod After
pub mod Examples
