-- The commodity of the declaring is declared, and of every other what was known.
use Rattle.std.proofs.Common.{◌||◌, sym, ap, ◌∙◌}
use Rattle.std.specs.BTreeSet.{contains}
use Rattle.lot_base.specs.Text.{text_cmp}
use Rattle.lot_book.specs.Facts.{declares}
use Rattle.lot_view.proofs.ViewLemmas.{declared_set}
use Rattle.lot_view.proofs.view.keep_declared.Goals as goal

pub returns-in_ok-insert : goal.returns-in_ok-insert
returns-in_ok-insert c =
    let old = c.args.declared.now in
    λ commodity.
    declared_set old c.insert.new.self c.in-Declaring.declaring.commodity c.in_ok-copy.field-0
    c.in_ok-copy.ensures c.in_ok-insert.ensures.updates.0 commodity
    ∙ ap (λ command. declares commodity command || contains text_cmp old commodity) (sym c.in-Declaring.is)
