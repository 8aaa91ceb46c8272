pub mod Printed
pub mod WrittenLines
pub mod InverseLine
pub mod Examples
