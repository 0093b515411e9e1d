pub mod EachLemmas
pub mod SectionLemmas
pub mod DayLemmas
pub mod SpellingLemmas
pub mod TextLemmas
pub mod TextsLemmas
pub mod NeedsLemmas
pub mod PieceLemmas
