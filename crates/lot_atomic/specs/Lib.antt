pub mod AllOrNone
pub mod Replies
