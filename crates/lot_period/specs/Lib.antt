pub mod Period
pub mod Term
