mod BalanceLemmas
mod FindLemmas
mod LawLemmas
mod TableLemmas
mod TextLemmas
