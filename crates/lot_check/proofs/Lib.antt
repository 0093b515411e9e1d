pub mod KeyLemmas
pub mod MemoryLemmas
pub mod RunLemmas
pub mod CauseLemmas
pub mod FaultLemmas
pub mod LawAnswersReports
pub mod LawAnswers
pub mod AnswerLemmas
