-- A commodity with a row is declared, one without isn't.
use Rattle.std.specs.Prelude.{is_some}
use Rattle.std.proofs.Common.{sym, ap, ◌∙◌}
use Rattle.lot_stored.specs.Kept.{declared_on}
use Rattle.lot_stored.specs.Rows.{commodity_row, name_key}
use Rattle.lot_rows.specs.Commodity.{IsCommodityRow, commodity_cells}
use Rattle.lot_table.specs.Rows.{has_key}
use Rattle.lot_load.specs.Known.{KnowsDeclared, Learns, said_by}
use Rattle.lot_load.proofs.PutLemmas.{not_declared, put_declared}
use Rattle.lot_load.proofs.ReadLemmas.{fails_first, passes, reads_first, tells}
use Rattle.lot_stored.proofs.KeptLemmas.{declared_as}
use Rattle.lot_load.proofs.RowLemmas.{good_filtered, mapped_is_some}
use Rattle.lot_view.specs.View.{known_with_openings}
use Rattle.lot_load.proofs.commodity.learn_commodity.Goals as goal

pub returns-in_err-find-clause-teaches : goal.returns-in_err-find-clause-teaches
returns-in_err-find-clause-teaches g c =
    let old = g.D.Queryable.shown c.args.conn.now in
    let new = g.D.Queryable.shown c.find.new.conn in
    passes _ old new c.in_err-find.field-0.0 c.from_residual.result c.from_residual.ensures.1
    (fails_first _ _ _ _ old new c.in_err-find.field-0.0 c.in_err-find.ensures.finds (λ tables entries book stand. good_filtered IsCommodityRow (λ row. has_key 1 (name_key c.args.commodity.now) (commodity_cells row)) tables.commodity stand.good.commodity))

pub returns-in_ok-put_declared-clause-teaches : goal.returns-in_ok-put_declared-clause-teaches
returns-in_ok-put_declared-clause-teaches g c =
    let old = g.D.Queryable.shown c.args.conn.now in
    let new = g.D.Queryable.shown c.find.new.conn in
    let commodity = c.args.commodity.now in
    tells _ old new tt
    (reads_first _ _ _ (λ entries. Learns (KnowsDeclared commodity) (said_by entries) (known_with_openings c.args.view.now) (known_with_openings c.put_declared.new.self)) old new
    c.in_ok-find.field-0 c.in_ok-find.ensures.finds
    (λ tables entries book stand good is.
    put_declared commodity (said_by entries) (known_with_openings c.args.view.now) (known_with_openings c.put_declared.new.self) c.in_ok-put_declared.ensures.ok c.in_ok-put_declared.ensures.openings
    (sym (declared_as entries commodity) ∙ sym (mapped_is_some (commodity_row commodity) (declared_on entries commodity))
    ∙ ap is_some (sym (is ∙ stand.commodity commodity)) ∙ sym c.is_some.ensures ∙ c.if-is_some.true)))

pub returns-else-is_some-clause-teaches : goal.returns-else-is_some-clause-teaches
returns-else-is_some-clause-teaches g c =
    let old = g.D.Queryable.shown c.args.conn.now in
    let new = g.D.Queryable.shown c.find.new.conn in
    let commodity = c.args.commodity.now in
    tells _ old new tt
    (reads_first _ _ _ (λ entries. Learns (KnowsDeclared commodity) (said_by entries) (known_with_openings c.args.view.now) (known_with_openings c.args.view.now)) old new
    c.in_ok-find.field-0 c.in_ok-find.ensures.finds
    (λ tables entries book stand good is.
    not_declared commodity (said_by entries) (known_with_openings c.args.view.now)
    (sym (declared_as entries commodity) ∙ sym (mapped_is_some (commodity_row commodity) (declared_on entries commodity))
    ∙ ap is_some (sym (is ∙ stand.commodity commodity)) ∙ sym c.is_some.ensures ∙ c.if-is_some.false)))
