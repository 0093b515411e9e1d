pub mod LotOpenings
pub mod First
pub mod Rows
pub mod Fault
pub mod Read
pub mod Put
pub mod Migrate
