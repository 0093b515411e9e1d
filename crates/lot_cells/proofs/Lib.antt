pub mod AppendLemmas
pub mod BalanceLemmas
mod CellLemmas
mod EntryLemmas
mod SaleLemmas
