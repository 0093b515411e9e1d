pub mod ApartLemmas
pub mod AdoptLemmas
pub mod ApplyLemmas
pub mod ByTextLemmas
pub mod CommitLemmas
pub mod CreateLemmas
pub mod DamageLemmas
pub mod ExtentLemmas
pub mod HandedLemmas
pub mod KeptLemmas
pub mod PairedLemmas
pub mod RefusalLemmas
pub mod OutputLemmas
pub mod RunLemmas
mod TrialLemmas
pub mod TurnLemmas
pub mod WalkLemmas
