pub mod Write
pub mod Call
pub mod Writes
