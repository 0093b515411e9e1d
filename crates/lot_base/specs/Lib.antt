pub mod Day
pub mod Name
pub mod Text
