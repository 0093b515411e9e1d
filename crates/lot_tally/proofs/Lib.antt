pub mod InsertLemmas
pub mod SumLemmas
mod RowLemmas
mod TextLemmas
pub mod LawLemmas
