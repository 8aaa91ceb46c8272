pub mod Moves
pub mod Gaps
pub mod Overs
pub mod Rooms
pub mod Examples
