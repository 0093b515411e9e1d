pub mod Course
pub mod Heard
pub mod Output
pub mod Record
