pub mod Column
pub mod Header
pub mod Part
pub mod Reading
pub mod Sheet
