pub mod SignLemmas
pub mod DigitLemmas
pub mod TextLemmas
pub mod GrammarLemmas
pub mod DecimalLemmas
pub mod PrintedLemmas
pub mod ShortestLemmas
pub mod PerUnitLemmas
