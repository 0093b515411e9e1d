-- The row has the plain units; without one there are none.
use Rattle.std.specs.Prelude.{None}
use Rattle.std.proofs.Common.{sym, ◌∙◌}
use Rattle.lot_table.specs.Rows.{has_key}
use Rattle.lot_view.specs.View.{known_with_openings}
use Rattle.lot_load.proofs.ReadLemmas.{fails_first, passes, reads_first, tells}
use Rattle.lot_stored.specs.Rows.{pair_key}
use Rattle.lot_rows.specs.Plain.{IsPlainRow, plain_cells}
use Rattle.lot_load.specs.Known.{KnowsAt, Learns, said_by}
use Rattle.lot_load.proofs.PutLemmas.{no_units}
use Rattle.lot_load.proofs.RowLemmas.{good_filtered}
use Rattle.lot_stored.proofs.HeldLemmas.{plain_found, plain_missing}
use Rattle.lot_load.proofs.pair.learn_units.Goals as goal

pub returns-in_err-row-clause-teaches : goal.returns-in_err-row-clause-teaches
returns-in_err-row-clause-teaches g c =
    let old = g.D.Queryable.shown c.args.conn.now in
    let new = g.D.Queryable.shown c.find.new.conn in
    let pair = c.args.pair.now in
    passes _ old new c.in_err-row.field-0.0 c.from_residual.result c.from_residual.ensures.1
    (fails_first _ _ _ _ old new c.in_err-row.field-0.0 c.in_err-row.ensures.finds
    (λ tables entries book stand. good_filtered IsPlainRow (λ row. has_key 2 (pair_key pair.account pair.commodity) (plain_cells row)) tables.plain stand.good.plain))

pub returns-in_ok-hold-clause-teaches : goal.returns-in_ok-hold-clause-teaches
returns-in_ok-hold-clause-teaches g c =
    let old = g.D.Queryable.shown c.args.conn.now in
    let new = g.D.Queryable.shown c.find.new.conn in
    let account = c.args.pair.now.account in
    let commodity = c.args.pair.now.commodity in
    tells _ old new tt
    (reads_first _ _ _ (λ entries. Learns (KnowsAt account (commodity, None)) (said_by entries) (known_with_openings c.args.view.now) (known_with_openings c.hold.new.view)) old new
    c.in_ok-row.field-0 c.in_ok-row.ensures.finds
    (λ tables entries book stand good is.
    c.in_ok-hold.ensures.learns (said_by entries) (plain_found tables entries stand account commodity c.in-Some.row (sym is ∙ c.in-Some.is)) tt))

pub returns-in_default-clause-teaches : goal.returns-in_default-clause-teaches
returns-in_default-clause-teaches g c =
    let old = g.D.Queryable.shown c.args.conn.now in
    let new = g.D.Queryable.shown c.find.new.conn in
    let account = c.args.pair.now.account in
    let commodity = c.args.pair.now.commodity in
    tells _ old new tt
    (reads_first _ _ _ (λ entries. Learns (KnowsAt account (commodity, None)) (said_by entries) (known_with_openings c.args.view.now) (known_with_openings c.args.view.now)) old new
    c.in_ok-row.field-0 c.in_ok-row.ensures.finds
    (λ tables entries book stand good is.
    no_units account (commodity, None) (said_by entries) (known_with_openings c.args.view.now) (plain_missing tables entries stand account commodity (sym is ∙ c.in_default.is))))
