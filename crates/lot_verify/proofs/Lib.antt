mod SelectLemmas
pub mod VerifyLemmas
