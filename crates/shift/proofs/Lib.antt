pub mod Handed
pub mod Verdicts
pub mod Carrying
pub mod Still
pub mod Unchanged
pub mod UnchangedRows
pub mod Theorems
pub mod Examples
