pub mod BalanceLemmas
pub mod GridLemmas
pub mod PieceLemmas
pub mod PlainLemmas
pub mod PlotLemmas
pub mod UnitLemmas
