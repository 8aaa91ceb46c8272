pub mod Loading
pub mod TextFrames
pub mod Examples
