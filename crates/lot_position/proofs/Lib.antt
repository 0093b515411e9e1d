pub mod SumLemmas
pub mod KeepLemmas
pub mod RowLemmas
pub mod LawLemmas
