pub mod CutRows
