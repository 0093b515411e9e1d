pub mod DecideLemmas
pub mod ConcludeLemmas
pub mod CheckLemmas
pub mod FitLemmas
pub mod HeadLemmas
pub mod FillLemmas
