pub mod FieldLemmas
pub mod NumberLemmas
pub mod TestLemmas
pub mod DayLemmas
pub mod FormLemmas
pub mod WrittenLemmas
pub mod SignLemmas
