mod AccountLemmas
mod HelpLemmas
mod ProgramLemmas
mod RequiredLemmas
mod TipLemmas
mod ValueLemmas
mod WordsLemmas
