pub mod Reads
pub mod Writes
pub mod Reader
pub mod Writer
