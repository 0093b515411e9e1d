-- All rows of the account and the commodity are put, and they are all its lots.
use Rattle.std.specs.Prelude.{List, ⊤}
use Rattle.std.specs.List.{AllByRecursion}
use Rattle.std.proofs.Common.{sym, subst}
use Rattle.sqlite.specs.State.{HasCleanDisk}
use Rattle.lot_rows.proofs.StateLemmas.{early, has_still}
use Rattle.lot_book.specs.Openings.{FactsWithOpenings}
use Rattle.lot_book.specs.declared.change.Pair.{Pair}
use Rattle.lot_table.specs.Rows.{has_key}
use Rattle.lot_view.specs.View.{known_with_openings}
use Rattle.lot_load.proofs.LotLemmas.{AreAllLots, all_lots, have_paired}
use Rattle.lot_load.proofs.ReadLemmas.{fails_first, fails_next, on_ok, passes, reads_first, reads_two, tells_checked}
use Rattle.lot_stored.specs.Rows.{pair_key}
use Rattle.lot_rows.specs.Lot.{IsLotRow, lot_cells}
use Rattle.lot_rows.specs.Opening.{IsOpeningRow, opening_cells}
use Rattle.lot_rows.specs.declared.lot.LotRow.{LotRow}
use Rattle.lot_rows.specs.declared.opening.OpeningRow.{OpeningRow}
use Rattle.lot_load.specs.Known.{IsTrueLot, IsTrueOpening, KnowsEach, KnowsLot, KnowsLots, Learns, said_by}
use Rattle.lot_load.specs.Paired.{ArePaired}
use Rattle.lot_load.proofs.LearnLemmas.{learns_as}
use Rattle.lot_load.proofs.RowLemmas.{good_filtered}
use Rattle.lot_load.proofs.pair.learn_lots.Goals as goal

pub returns-in_err-lots-clause-teaches : goal.returns-in_err-lots-clause-teaches
returns-in_err-lots-clause-teaches g c =
    let old = g.D.Queryable.shown c.args.conn.now in
    let new = g.D.Queryable.shown c.list_of.new.conn in
    let pair = c.args.pair.now in
    passes _ old new c.in_err-lots.field-0.0 c.from_residual.result c.from_residual.ensures.1
    (fails_first _ _ _ _ old new c.in_err-lots.field-0.0 c.in_err-lots.ensures.lists
    (λ tables entries book stand. good_filtered IsLotRow (λ row. has_key 2 (pair_key pair.account pair.commodity) (lot_cells row)) tables.lot stand.good.lot))

pub returns-in_err-openings-clause-teaches : goal.returns-in_err-openings-clause-teaches
returns-in_err-openings-clause-teaches g c =
    let old = g.D.Queryable.shown c.args.conn.now in
    let mid = g.D.Queryable.shown c.list_of.new.conn in
    let new = g.D.Queryable.shown c.list_of-2.new.conn in
    let pair = c.args.pair.now in
    passes _ old new c.in_err-openings.field-0.0 c.from_residual-in_err-openings.result c.from_residual-in_err-openings.ensures.1
    (fails_next _ _ _ (λ entries. ⊤) _ old mid new c.in_err-openings.field-0.0
    (reads_first _ _ _ (λ entries. ⊤) old mid c.in_ok-lots.lots c.in_ok-lots.ensures.lists (λ tables entries book stand good is. tt))
    c.in_err-openings.ensures.lists
    (λ tables entries book stand. good_filtered IsOpeningRow (λ row. has_key 2 (pair_key pair.account pair.commodity) (opening_cells row)) tables.opening stand.good.opening))

pub returns-clause-teaches : goal.returns-clause-teaches
returns-clause-teaches g c =
    let old = g.D.Queryable.shown c.args.conn.now in
    let mid = g.D.Queryable.shown c.list_of.new.conn in
    let new = g.D.Queryable.shown c.list_of-2.new.conn in
    let pair : Pair = c.args.pair.now in
    let before = known_with_openings c.args.view.now in
    let after = known_with_openings c.hold_lots.new.view in
    let lots : List LotRow = c.deref.result.now in
    let openings : List OpeningRow = c.deref-2.result.now in
    tells_checked ((book : FactsWithOpenings) → AllByRecursion (IsTrueLot pair book.facts) lots → AllByRecursion (IsTrueOpening pair book) openings
    → Learns (KnowsEach (KnowsLot pair) lots) book before after)
    (ArePaired lots openings) (AreAllLots pair lots openings) _ old new c.hold_lots.result
    (reads_two _ _ _ _ _ _ (λ entries. ArePaired lots openings × AreAllLots pair lots openings entries) old mid new
    c.in_ok-lots.lots c.in_ok-openings.openings c.in_ok-lots.ensures.lists c.in_ok-openings.ensures.lists
    (λ tables entries book stand good is good_numbered is_numbered.
    subst (λ (rows : List LotRow). ArePaired rows openings × AreAllLots pair rows openings entries) (sym c.deref.ensures.value)
    (subst (λ (rows : List OpeningRow). ArePaired c.in_ok-lots.lots.items rows × AreAllLots pair c.in_ok-lots.lots.items rows entries)
    (sym c.deref-2.ensures.value)
    (all_lots tables entries stand pair c.in_ok-lots.lots.items c.in_ok-openings.openings.items good is good_numbered is_numbered))))
    c.hold_lots.ensures.learns c.hold_lots.ensures.no_device c.hold_lots.ensures.damaged.0
    (λ done entries answer read.
    learns_as (KnowsEach (KnowsLot pair) lots) (KnowsLots pair.account pair.commodity) (said_by entries) before after
    (λ _ part each. read.all after.facts part each) (done (said_by entries) read.units read.numbers))

pub returns-clause-paired : goal.returns-clause-paired
returns-clause-paired g c clean =
    let old = g.D.Queryable.shown c.args.conn.now in
    let mid = g.D.Queryable.shown c.list_of.new.conn in
    let new = g.D.Queryable.shown c.list_of-2.new.conn in
    let pair : Pair = c.args.pair.now in
    let lots = c.in_ok-lots.lots.items in
    let openings = c.in_ok-openings.openings.items in
    let one = c.in_ok-lots.ensures.lists in
    let two = c.in_ok-openings.ensures.lists in
    on_ok c.hold_lots.result
    (λ paired tables has.
    let before : HasCleanDisk mid = early mid new two.crash clean in
    have_paired tables pair lots openings (one.says before tables has) (two.says clean tables (has_still old mid tables (one.same before) has))
    (subst (λ (rows : List LotRow). ArePaired rows openings) c.deref.ensures.value
    (subst (ArePaired c.deref.result.now) c.deref-2.ensures.value paired)))
    c.hold_lots.ensures.paired
