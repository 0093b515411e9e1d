pub mod LawLemmas
pub mod MoneyLemmas
pub mod RowLemmas
pub mod SumLemmas
pub mod TextLemmas
