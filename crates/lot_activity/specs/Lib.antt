pub mod Rows
pub mod Scope
pub mod Table
