mod DateLemmas
mod OrderLemmas
