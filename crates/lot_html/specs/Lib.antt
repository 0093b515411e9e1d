pub mod Html
pub mod Number
pub mod Text
