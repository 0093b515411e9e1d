pub mod ListLemmas
pub mod OrderLemmas
