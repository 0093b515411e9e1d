pub mod BalanceLemmas
mod CharLemmas
mod DigitLemmas
pub mod LawLemmas
