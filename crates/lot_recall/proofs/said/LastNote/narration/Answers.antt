use Rattle.std.specs.Prelude.{◌≡◌}
use Rattle.std.proofs.Common.{◌∙◌, sym}
use Rattle.lot_noted.specs.Book.{Narrates}
use Rattle.std.proofs.Common.{subst}
use Rattle.lot_recall.proofs.SaidLemmas.{of_same}
use Rattle.lot_recall.proofs.said.LastNote.narration.Goals as goal

-- the text that was read last
pub returns-then-is_of-clause-says : goal.returns-then-is_of-clause-says
returns-then-is_of-clause-says c =
    of_same _ c.args.text.now _ (sym c.is_of.ensures ∙ c.if-is_of.true) c.in_ok-narration.ensures

-- another one
pub returns-clause-says : goal.returns-clause-says
returns-clause-says c = subst (λ text. Narrates text c.in_ok-narration-2.narration) c.in_ok-said.ensures.text c.in_ok-narration-2.ensures
