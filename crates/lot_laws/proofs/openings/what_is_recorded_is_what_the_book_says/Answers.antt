-- Fact by fact, and leg by leg.
use Rattle.lot_laws.proofs.RecordedBook.{recorded-known}
use Rattle.lot_laws.proofs.StepOpenings.{listed_after, numbers_recorded}
use Rattle.lot_laws.proofs.openings.what_is_recorded_is_what_the_book_says.Goals as goal

pub returns-clause-facts : goal.returns-clause-facts
returns-clause-facts c = λ ties migration known. recorded-known ties migration known.facts

pub returns-clause-listed : goal.returns-clause-listed
returns-clause-listed c = listed_after

pub returns-clause-numbers : goal.returns-clause-numbers
returns-clause-numbers c = numbers_recorded
