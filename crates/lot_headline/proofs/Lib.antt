pub mod RealisedLemmas
pub mod HeadlineLemmas
pub mod CallLemmas
