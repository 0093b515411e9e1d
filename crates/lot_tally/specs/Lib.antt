pub mod Lots
pub mod Rows
pub mod Table
