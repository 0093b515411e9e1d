mod RateLemmas
mod CrumbLemmas
mod OneLemmas
pub mod AgreeLemmas
mod FewLemmas
mod CompletionLemmas
mod BalanceLemmas
mod TakenUpLemmas
mod GetsLemmas
mod ReadLemmas
mod FormLemmas
mod ByFormLemmas
mod OwnLemmas
mod SplitLemmas
mod TurnLemmas
mod RepeatLemmas
mod BalancingLemmas
