-- The row has the latest day; without one there is no day.
use Rattle.std.specs.Prelude.{Some}
use Rattle.std.proofs.Common.{sym, ap, ◌∙◌}
use Rattle.lot_book.specs.Facts.{latest_at_cost}
use Rattle.lot_table.specs.Rows.{has_key}
use Rattle.lot_view.specs.View.{known_with_openings}
use Rattle.lot_load.proofs.ReadLemmas.{fails_first, passes, reads_first, tells}
use Rattle.lot_stored.specs.Rows.{head_row, pair_key}
use Rattle.lot_rows.specs.Head.{IsHeadRow, head_cells}
use Rattle.lot_rows.specs.declared.head.HeadRow.{HeadRow}
use Rattle.lot_load.specs.Known.{KnowsHead, Learns, said_by}
use Rattle.lot_load.proofs.PutLemmas.{no_head, put_head}
use Rattle.lot_load.proofs.RowLemmas.{good_filtered}
use Rattle.lot_stored.proofs.HeldLemmas.{mapped_none, mapped_some}
use Rattle.lot_load.proofs.pair.learn_head.Goals as goal

pub returns-in_err-row-clause-teaches : goal.returns-in_err-row-clause-teaches
returns-in_err-row-clause-teaches g c =
    let old = g.D.Queryable.shown c.args.conn.now in
    let new = g.D.Queryable.shown c.find.new.conn in
    let pair = c.args.pair.now in
    passes _ old new c.in_err-row.field-0.0 c.from_residual.result c.from_residual.ensures.1
    (fails_first _ _ _ _ old new c.in_err-row.field-0.0 c.in_err-row.ensures.finds
    (λ tables entries book stand. good_filtered IsHeadRow (λ row. has_key 2 (pair_key pair.account pair.commodity) (head_cells row)) tables.head stand.good.head))

pub returns-in_ok-put_head-clause-teaches : goal.returns-in_ok-put_head-clause-teaches
returns-in_ok-put_head-clause-teaches g c =
    let old = g.D.Queryable.shown c.args.conn.now in
    let new = g.D.Queryable.shown c.find.new.conn in
    let account = c.args.pair.now.account in
    let commodity = c.args.pair.now.commodity in
    tells _ old new tt
    (reads_first _ _ _ (λ entries. Learns (KnowsHead account commodity) (said_by entries) (known_with_openings c.args.view.now) (known_with_openings c.put_head.new.self)) old new
    c.in_ok-row.field-0 c.in_ok-row.ensures.finds
    (λ tables entries book stand good is.
    let at = mapped_some (head_row account commodity) (latest_at_cost entries account commodity) c.in-Some.row (sym c.in-Some.is ∙ is ∙ stand.head account commodity) in
    put_head account commodity c.in-Some.row.day (said_by entries) (known_with_openings c.args.view.now) (known_with_openings c.put_head.new.self) c.in_ok-put_head.ensures.ok c.in_ok-put_head.ensures.openings
    (at.1 ∙ ap (λ (row : HeadRow). Some row.day) (sym at.2))))

pub returns-in_default-clause-teaches : goal.returns-in_default-clause-teaches
returns-in_default-clause-teaches g c =
    let old = g.D.Queryable.shown c.args.conn.now in
    let new = g.D.Queryable.shown c.find.new.conn in
    let account = c.args.pair.now.account in
    let commodity = c.args.pair.now.commodity in
    tells _ old new tt
    (reads_first _ _ _ (λ entries. Learns (KnowsHead account commodity) (said_by entries) (known_with_openings c.args.view.now) (known_with_openings c.args.view.now)) old new
    c.in_ok-row.field-0 c.in_ok-row.ensures.finds
    (λ tables entries book stand good is.
    no_head account commodity (said_by entries) (known_with_openings c.args.view.now)
    (mapped_none (head_row account commodity) (latest_at_cost entries account commodity) (sym c.in_default.is ∙ is ∙ stand.head account commodity))))
