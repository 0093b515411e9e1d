-- One more row is known; at the end all are.
use Rattle.std.specs.Prelude.{List, None}
use Rattle.std.proofs.Common.{subst}
use Rattle.std.proofs.lemmas.List.{drop_all}
use Rattle.lot_load.specs.Known.{IsTruePlain, KnowsUnits}
use Rattle.lot_load.proofs.LearnLemmas.{IsLeft, at_stays, left_all, left_none}
use Rattle.lot_load.proofs.UnitLemmas.{left_row}
use Rattle.lot_rows.specs.declared.plain.PlainRow.{PlainRow}
use Rattle.lot_view.specs.View.{known_with_openings}
use Rattle.lot_load.proofs.held.hold_plain.Goals as goal

pub loop-row-init : goal.loop-row-init
loop-row-init c book right = left_all KnowsUnits c.args.rows.now book (known_with_openings c.args.view.now)

pub loop-row-preserved : goal.loop-row-preserved
loop-row-preserved c book right =
    left_row KnowsUnits (IsTruePlain book.facts) c.args.rows.now c.loop-row.row-index c.row-item.result book (known_with_openings c.args.view.now) (known_with_openings c.loop-row.view) (known_with_openings c.hold.new.view)
    (λ (row : PlainRow). at_stays row.account (row.commodity, None)) c.loop-row-test.true c.row-item.is right (c.loop-row.invariant book right)
    (λ here. c.in_ok-hold.ensures.learns book here tt)

pub returns-clause-learns : goal.returns-clause-learns
returns-clause-learns c book right =
    let rows = c.args.rows.now in
    left_none KnowsUnits rows book (known_with_openings c.args.view.now) (known_with_openings c.loop-row.view)
    (subst (λ (left : List PlainRow). IsLeft KnowsUnits rows left book (known_with_openings c.args.view.now) (known_with_openings c.loop-row.view))
    (drop_all c.loop-row.row-index rows c.loop-row-test.false) (c.loop-row.invariant book right))
