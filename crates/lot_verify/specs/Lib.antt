pub mod Fault
pub mod Verify
