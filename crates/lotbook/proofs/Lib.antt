pub mod EndLemmas
pub mod OpenLemmas
pub mod ReadLemmas
