pub mod KindLemmas
pub mod RatioLemmas
pub mod SignLemmas
pub mod WorthLemmas
pub mod RuleLemmas
