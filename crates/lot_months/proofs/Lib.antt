mod DateLemmas
mod OrderLemmas
mod SumLemmas
mod PairLemmas
mod FlowLemmas
mod PriceLemmas
mod EndLemmas
mod CostLemmas
pub mod SeriesLemmas
