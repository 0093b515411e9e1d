pub mod AllOrNoneLemmas
pub mod RepliesLemmas
