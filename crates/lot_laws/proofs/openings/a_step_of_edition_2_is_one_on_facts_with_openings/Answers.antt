-- Both decide ties alike among the lots that are held.
use Rattle.lot_laws.proofs.StepOpenings.{step_on_book, step_on_known}
use Rattle.lot_laws.proofs.openings.a_step_of_edition_2_is_one_on_facts_with_openings.Goals as goal

pub returns-clause-book : goal.returns-clause-book
returns-clause-book c = step_on_book

pub returns-clause-known : goal.returns-clause-known
returns-clause-known c = step_on_known
