pub mod AmongEdits
pub mod Examples
