pub mod Without
pub mod Value
pub mod Given
