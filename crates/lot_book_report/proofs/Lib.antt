pub mod CauseLemmas
pub mod CsvLemmas
pub mod FeedLemmas
pub mod GivenLemmas
pub mod HoldingLemmas
mod ListedLemmas
pub mod JournalLemmas
pub mod PriceLemmas
pub mod ReadLemmas
pub mod HeardLemmas
pub mod DumpLemmas
