pub mod InputLemmas
pub mod KeyedLemmas
