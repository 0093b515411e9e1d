mod BeginLemmas
mod LoopLemmas
mod RestoreLemmas
mod SaidLemmas
mod SoFarLemmas
mod JudgeLemmas
mod PlaceLemmas
pub mod RestoredLemmas
mod StoppedLemmas
mod WholeLemmas
pub mod DumpOfBookLemmas
pub mod TakenLemmas
