pub mod Form
pub mod Cutting
pub mod Lines
