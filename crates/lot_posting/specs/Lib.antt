pub mod Tally
pub mod Posting
