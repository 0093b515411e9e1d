use Rattle.lot_compare.proofs.LawLemmas.{no_differences}
use Rattle.lot_compare.proofs.laws.equal_books_dont_differ.Goals as goal

pub returns : goal.returns
returns c = no_differences
