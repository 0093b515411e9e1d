pub mod BalanceLaws
pub mod DealLemmas
pub mod OneLaws
