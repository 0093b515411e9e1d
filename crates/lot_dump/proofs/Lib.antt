pub mod CutLemmas
pub mod HeadLemmas
pub mod HeadingLemmas
pub mod EndLemmas
pub mod LineLemmas
