pub mod Field
pub mod Numbers
pub mod Halves
pub mod Tests
pub mod Days
pub mod Written
