pub mod Length
pub mod Canonical
