mod SelectLemmas
pub mod LookLemmas
pub mod SumsLemmas
pub mod ToldLemmas
