pub mod Pieces
pub mod Weaving
pub mod Commits
pub mod Examples
