pub mod SplitCols
