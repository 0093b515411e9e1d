pub mod Amount
pub mod NumberText
pub mod NumberGrammar
pub mod AmountText
pub mod Sum
