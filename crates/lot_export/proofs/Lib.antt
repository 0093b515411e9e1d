pub mod ListLemmas
pub mod DayLemmas
pub mod EntryLemmas
pub mod HandedInLemmas
pub mod NamedLemmas
pub mod ShowLemmas
