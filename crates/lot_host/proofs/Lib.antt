mod OpenedLemmas
pub mod ImportLemmas
pub mod OldLemmas
