pub mod Flags
pub mod Wholes
pub mod RowEdits
pub mod Dispatch
