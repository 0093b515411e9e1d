pub mod LeftLemmas
pub mod RowLemmas
pub mod TextLemmas
