pub mod DayLemmas
pub mod KeyLemmas
pub mod LegLemmas
pub mod PlaceLemmas
pub mod WriteLemmas
