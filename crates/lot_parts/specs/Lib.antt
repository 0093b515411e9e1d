pub mod Commands
pub mod Dump
pub mod Entries
pub mod Fault
pub mod Reading
pub mod Sum
