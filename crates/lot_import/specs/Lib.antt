pub mod Column
pub mod Deal
pub mod File
pub mod Header
pub mod Reading
pub mod Row
pub mod Keyed
