-- Nothing is known whole.
use Rattle.std.proofs.Common.{ap, subst, sym, ◌∙◌}
use Rattle.lot_book.specs.Facts.{Facts}
use Rattle.lot_book.specs.Recorded.{facts_in}
use Rattle.lot_load.specs.Known.{IsPart, said_by}
use Rattle.lot_load.proofs.KeptLemmas.{nothing_is_part, nothing_opened, nothing_whole}
use Rattle.lot_view.specs.View.{known, known_with_openings}
use Rattle.lot_load.proofs.kept.Kept.new.Goals as goal

pub returns-clause-keeps : goal.returns-clause-keeps
returns-clause-keeps c book counted = record {
  count = ap (λ (f : Facts). f.entries) c.new-5.ensures ∙ counted;
  part = subst (IsPart (facts_in book)) (sym c.new-5.ensures) (nothing_is_part (facts_in book) c.args.entries);
  openings = nothing_opened (said_by book) (known_with_openings c.new-5.result) c.args.entries c.new-5.ensures;
  whole = nothing_whole (record { accounts = c.new.result; declared = c.new-2.result; pairs = c.new-3.result; plain = c.new-4.result })
      (facts_in book) (known c.new-5.result) c.new.ensures.empty c.new-2.ensures.empty c.new-3.ensures.empty c.new-4.ensures.empty;
}
