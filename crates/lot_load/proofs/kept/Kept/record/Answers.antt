-- What is recorded is so of the book with the entry.
use Rattle.std.specs.Prelude.{◌++◌, ◌∷◌, [], List}
use Rattle.std.proofs.Common.{ap, subst, sym, ◌∙◌}
use Rattle.lot_book.specs.Book.{entry_of}
use Rattle.lot_book.specs.Facts.{Entry, Facts}
use Rattle.lot_book.specs.Recorded.{facts_in}
use Rattle.lot_load.specs.Kept.{seen_with_openings}
use Rattle.lot_load.specs.Known.{IsPart, KnowsTouched}
use Rattle.lot_load.proofs.RecordLemmas.{recorded_count, recorded_openings, recorded_part, recorded_whole}
use Rattle.lot_view.specs.View.{known_with_openings}
use Rattle.lot_load.proofs.kept.Kept.record.Goals as goal

pub returns-clause-keeps : goal.returns-clause-keeps
returns-clause-keeps c edition entries key book keeps agrees comes =
    let command = c.args.command.now in
    let change = c.args.change.now in
    let facts = seen_with_openings c.args.self in
    let grown : List Entry = entries ++ entry_of key command change.legs ∷ [] in
    let is = c.in_ok-view.ensures.facts in record {
      count = ap (λ (f : Facts). f.entries) is
          ∙ recorded_count edition entries key command change facts book agrees comes keeps.part keeps.count;
      part = subst (IsPart (facts_in grown)) (sym is) (recorded_part edition entries key command change facts book agrees comes keeps.part);
      openings = recorded_openings edition entries key command change facts book agrees comes keeps.part
          (known_with_openings c.in_ok-view.view) is keeps.openings c.in_ok-view.ensures.openings;
      whole = subst (KnowsTouched c.args.self.whole (facts_in grown)) (sym is)
          (recorded_whole edition entries key command change facts book agrees comes keeps.part c.args.self.whole keeps.whole);
    }
