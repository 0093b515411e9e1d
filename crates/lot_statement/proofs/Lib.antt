mod HeaderLemmas
pub mod LineLemmas
mod StatementLemmas
