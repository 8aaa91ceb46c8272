pub mod JoinRows
