mod ValueLemmas
mod GivenLemmas
