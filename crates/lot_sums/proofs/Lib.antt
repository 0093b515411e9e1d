pub mod ActivityLemmas
pub mod GatherLemmas
pub mod HeldLemmas
pub mod LawLemmas
pub mod ReconciliationLemmas
pub mod ShowLemmas
