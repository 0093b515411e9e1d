pub mod Answered
pub mod Compared
pub mod Opened
pub mod Shown
pub mod Statuses
