-- All rows of the account are put, and they are all its plain units.
use Rattle.std.specs.Prelude.{List}
use Rattle.std.specs.List.{AllByRecursion}
use Rattle.std.proofs.Common.{sym, subst}
use Rattle.lot_book.specs.Openings.{FactsWithOpenings}
use Rattle.lot_table.specs.Rows.{has_key}
use Rattle.lot_view.specs.View.{known_with_openings}
use Rattle.lot_load.proofs.ReadLemmas.{fails_first, passes, reads_first, tells_done}
use Rattle.lot_stored.specs.Rows.{name_key}
use Rattle.lot_rows.specs.Plain.{IsPlainRow, plain_cells}
use Rattle.lot_rows.specs.declared.plain.PlainRow.{PlainRow}
use Rattle.lot_load.specs.Known.{IsTruePlain, KnowsEach, KnowsPlain, KnowsUnits, Learns, said_by}
use Rattle.lot_load.proofs.LearnLemmas.{learns_as}
use Rattle.lot_load.proofs.RowLemmas.{good_filtered}
use Rattle.lot_load.proofs.UnitLemmas.{AreAllPlain, all_plain}
use Rattle.lot_load.proofs.plain.learn_plain.Goals as goal

pub returns-in_err-rows-clause-teaches : goal.returns-in_err-rows-clause-teaches
returns-in_err-rows-clause-teaches g c =
    let old = g.D.Queryable.shown c.args.conn.now in
    let new = g.D.Queryable.shown c.list_of.new.conn in
    passes _ old new c.in_err-rows.field-0.0 c.from_residual.result c.from_residual.ensures.1
    (fails_first _ _ _ _ old new c.in_err-rows.field-0.0 c.in_err-rows.ensures.lists
    (λ tables entries book stand. good_filtered IsPlainRow (λ row. has_key 1 (name_key c.args.account.now) (plain_cells row)) tables.plain stand.good.plain))

pub returns-clause-teaches : goal.returns-clause-teaches
returns-clause-teaches g c =
    let old = g.D.Queryable.shown c.args.conn.now in
    let new = g.D.Queryable.shown c.list_of.new.conn in
    let account = c.args.account.now in
    let before = known_with_openings c.args.view.now in
    let after = known_with_openings c.hold_plain.new.view in
    let rows : List PlainRow = c.deref.result.now in
    tells_done ((book : FactsWithOpenings) → AllByRecursion (IsTruePlain book.facts) rows → Learns (KnowsEach KnowsUnits rows) book before after)
    (λ entries. AreAllPlain account rows entries) _ old new c.hold_plain.result
    (reads_first _ _ _ (λ entries. AreAllPlain account rows entries) old new c.in_ok-rows.rows c.in_ok-rows.ensures.lists
    (λ tables entries book stand good is.
    subst (λ (rows : List PlainRow). AreAllPlain account rows entries) (sym c.deref.ensures.value)
    (all_plain tables entries stand account c.in_ok-rows.rows.items is)))
    c.hold_plain.ensures.learns c.hold_plain.ensures.err
    (λ done entries answer all.
    learns_as (KnowsEach KnowsUnits rows) (KnowsPlain account) (said_by entries) before after (λ _ part each. all.1 after.facts part each)
    (done (said_by entries) all.0))
