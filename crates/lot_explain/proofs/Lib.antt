pub mod FormLemmas
mod ShellLemmas
pub mod SiteLemmas
pub mod ExplainedLemmas
