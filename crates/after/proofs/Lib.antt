pub mod Inserts
pub mod Deletes
pub mod Behind
pub mod Rectangles
pub mod Columns
pub mod JoinCols
pub mod Examples
