pub mod ReopeningLemmas
