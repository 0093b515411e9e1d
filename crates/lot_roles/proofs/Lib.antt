pub mod AccountLemmas
pub mod KindLemmas
pub mod NoteLemmas
pub mod NumberLemmas
pub mod StepLemmas
pub mod SumLemmas
pub mod TextLemmas
