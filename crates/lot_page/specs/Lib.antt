pub mod Cursor
pub mod Lots
pub mod Page
pub mod Rise
