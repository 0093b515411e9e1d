pub mod Days
pub mod Legs
pub mod Place
