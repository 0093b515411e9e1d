pub mod BareLemmas
pub mod DayLemmas
pub mod HeadLemmas
pub mod KeyLemmas
pub mod RisingLemmas
pub mod SumLemmas
