pub mod Csv
pub mod Dump
pub mod Fault
pub mod Gains
pub mod Holdings
pub mod Journal
pub mod Show
