-- The total of the currency of the lot is put in its place.
use Rattle.std.specs.Prelude.{IsTrue}
use Rattle.std.proofs.Common.{◌∙◌, ap, subst}
use Rattle.lot_cells.specs.Holdings.{has_room, totals_with}
use Rattle.lot_cells.specs.declared.holdings.LotTotals.{LotTotals}
use Rattle.lot_page_report.proofs.HeldLemmas.{no_room, totalled_some}
use Rattle.lot_page_report.proofs.held.add_lot.Goals as goal

pub returns-clause-adds : goal.returns-clause-adds
returns-clause-adds c =
    let after = rw c.in-Some-with.is at c.with.ensures in
    totalled_some c.args.row.now c.args.totals.now c.insert.new.self c.in-Some.lot _ c.in-Some-with.after c.in-Some.is
    c.in_ok-copy.ensures
    (after.1 ∙ ap (λ total. totals_with total c.in-Some.lot c.args.row.now.holding.units c.args.row.now.valuation) c.total_at-before.ensures)
    c.in_ok-insert.ensures.updates.0

pub returns-in_default-with-clause-range : goal.returns-in_default-with-clause-range
returns-in_default-with-clause-range c = λ is. (
  c.in-Some.lot,
  c.in-Some.is,
  no_room _
      (subst (λ (total : LotTotals). ¬ IsTrue (has_room total c.in-Some.lot c.args.row.now.holding.units c.args.row.now.valuation))
      c.total_at-before.ensures (rw c.in_default-with.is at c.with.ensures)),
)

pub returns-clause-ordered : goal.returns-clause-ordered
returns-clause-ordered c = λ was. c.in_ok-insert.ensures.ordered
