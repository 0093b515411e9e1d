pub mod Posting
pub mod Trade
pub mod Cash
pub mod Deal
pub mod Balance
