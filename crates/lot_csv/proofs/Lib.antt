mod FieldLemmas
mod LawLemmas
mod LotLemmas
mod RecordLemmas
mod ShareLemmas
mod SumLemmas
