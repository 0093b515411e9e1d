pub mod LineLemmas
pub mod CountLemmas
pub mod DumpLemmas
pub mod ReadLemmas
pub mod StepLemmas
pub mod EntryLemmas
pub mod CommandLemmas
pub mod TakenLemmas
