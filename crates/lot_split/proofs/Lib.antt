mod ListLemmas
mod SumLemmas
mod CurrencyLemmas
mod NumberLemmas
mod CostLemmas
mod WeightLemmas
mod OneLemmas
mod SplitLemmas
mod HeldLemmas
mod OneOrder
mod OnLemmas
mod FormLemmas
mod MovedLemmas
mod RatioLemmas
pub mod AgreeLemmas
