pub mod Access
pub mod Answers
pub mod Done
pub mod Run
pub mod Stage
