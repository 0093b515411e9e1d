pub mod CopyLemmas
pub mod MediumLemmas
pub mod OpenLemmas
pub mod OpenerLemmas
