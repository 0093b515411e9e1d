pub mod BookLemmas
pub mod LookLemmas
pub mod OrderLemmas
pub mod PlaceLemmas
pub mod RowLemmas
pub mod SumLemmas
pub mod TextLemmas
