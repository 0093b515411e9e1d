use Rattle.std.proofs.Common.{arith, rules}
use Rattle.std.proofs.lemmas.List.{nil_from_length}
use Rattle.sqlite.specs.Held.{state}
use Rattle.sqlite_sql.specs.declared.ops.CompareOp.TheVariants.{Gt}
use Rattle.lot_page.specs.Page.{level, page_rows}
use Rattle.lot_page.proofs.LevelLemmas.{terms}
use Rattle.lot_page.proofs.PageLemmas.{answers}
use Rattle.lot_page.proofs.LotLemmas.{all_lots, asks_cost_label, cost_label_key, cost_label_text, mounts_at}
use Rattle.lot_rows.proofs.LotLemmas.{names, order, shows}
use Rattle.lot_page.proofs.WalkLemmas.{later_pages, level_ends, level_fails, level_pages}
use Rattle.lot_rows.specs.Lot.{lot_cells}
use Rattle.lot_rows.specs.Tables.{lot_table}
use Rattle.lot_page.proofs.lot.LotRowPagedRow.page.Goals as goal

pub returns-in_default : goal.returns-in_default
returns-in_default g c =
    record { pages = rw (c.in_default.is) (all_lots (state g.S.Store c.args.conn.now) (state g.S.Store c.lots_from.new.conn) c.lots_from.result c.lots_from.ensures.pages) }

pub ask-requires : goal.ask-requires
ask-requires g c = asks_cost_label.selects

pub returns-in_err-rest : goal.returns-in_err-rest
returns-in_err-rest g c =
    let told = c.ask.ensures in
    let row = c.in-Some.row in
    let old = state g.S.Store c.args.conn.now in
    let new = state g.S.Store c.ask.new.conn in
    let first =
    answers lot_table cost_label_key (λ k. level 5 0 (lot_cells k)) page_rows (terms Gt 5 0) shows order names cost_label_text asks_cost_label old new row c.ask.result (rw (c.to_cell.ensures, c.to_cell-2.ensures, c.to_cell-3.ensures, c.to_cell-4.ensures, c.to_cell-5.ensures, c.to_cell-6.ensures, c.to_cell-7.ensures) at told.shown) told.same
    (rw (c.to_cell.ensures, c.to_cell-2.ensures, c.to_cell-3.ensures, c.to_cell-4.ensures, c.to_cell-5.ensures, c.to_cell-6.ensures, c.to_cell-7.ensures) at told.refused) told.device told.err told.crash in
    let pages = level_fails lot_cells (λ b. b.lot) page_rows (omega arith) 5 (lot_cells row) (mounts_at 5 (omega arith)) old new c.in_err-rest.field-0.0 (rw (c.in_err-rest.was) at first) in
    record { pages = rw (c.in-Some.is) (search rules) }

pub returns-then-not-is_empty : goal.returns-then-not-is_empty
returns-then-not-is_empty g c =
    let told = c.ask.ensures in
    let row = c.in-Some.row in
    let old = state g.S.Store c.args.conn.now in
    let new = state g.S.Store c.ask.new.conn in
    let first =
    answers lot_table cost_label_key (λ k. level 5 0 (lot_cells k)) page_rows (terms Gt 5 0) shows order names cost_label_text asks_cost_label old new row c.ask.result (rw (c.to_cell.ensures, c.to_cell-2.ensures, c.to_cell-3.ensures, c.to_cell-4.ensures, c.to_cell-5.ensures, c.to_cell-6.ensures, c.to_cell-7.ensures) at told.shown) told.same
    (rw (c.to_cell.ensures, c.to_cell-2.ensures, c.to_cell-3.ensures, c.to_cell-4.ensures, c.to_cell-5.ensures, c.to_cell-6.ensures, c.to_cell-7.ensures) at told.refused) told.device told.err told.crash in
    record { pages = rw (c.in-Some.is) (level_pages lot_cells (λ b. b.lot) page_rows (omega arith) 5 (lot_cells row) (mounts_at 5 (omega arith)) old new c.in_ok-rest.rest (search rules) (rw (c.in_ok-rest.was) at first)) }

pub returns-in_err-texts : goal.returns-in_err-texts
returns-in_err-texts g c =
    let told = c.ask.ensures in
    let row = c.in-Some.row in
    let old = state g.S.Store c.args.conn.now in
    let new = state g.S.Store c.ask.new.conn in
    let first =
    answers lot_table cost_label_key (λ k. level 5 0 (lot_cells k)) page_rows (terms Gt 5 0) shows order names cost_label_text asks_cost_label old new row c.ask.result (rw (c.to_cell.ensures, c.to_cell-2.ensures, c.to_cell-3.ensures, c.to_cell-4.ensures, c.to_cell-5.ensures, c.to_cell-6.ensures, c.to_cell-7.ensures) at told.shown) told.same
    (rw (c.to_cell.ensures, c.to_cell-2.ensures, c.to_cell-3.ensures, c.to_cell-4.ensures, c.to_cell-5.ensures, c.to_cell-6.ensures, c.to_cell-7.ensures) at told.refused) told.device told.err told.crash in
    let pages = level_ends lot_cells (λ b. b.lot) page_rows (omega arith) 5 (lot_cells row) (mounts_at 5 (omega arith)) old new c.in_ok-rest.rest (rw (c.in_ok-rest.was) at first) in
    record { pages = rw (c.in-Some.is) (search rules) }

pub returns : goal.returns
returns g c =
    let told = c.ask.ensures in
    let row = c.in-Some.row in
    let old = state g.S.Store c.args.conn.now in
    let mid = state g.S.Store c.ask.new.conn in
    let first =
    answers lot_table cost_label_key (λ k. level 5 0 (lot_cells k)) page_rows (terms Gt 5 0) shows order names cost_label_text asks_cost_label old mid row c.ask.result (rw (c.to_cell.ensures, c.to_cell-2.ensures, c.to_cell-3.ensures, c.to_cell-4.ensures, c.to_cell-5.ensures, c.to_cell-6.ensures, c.to_cell-7.ensures) at told.shown) told.same
    (rw (c.to_cell.ensures, c.to_cell-2.ensures, c.to_cell-3.ensures, c.to_cell-4.ensures, c.to_cell-5.ensures, c.to_cell-6.ensures, c.to_cell-7.ensures) at told.refused) told.device told.err told.crash in
    let new = state g.S.Store c.behind.new.conn in
    let later = c.behind.ensures.pages in
    record { pages = rw (c.in-Some.is) (later_pages lot_cells (λ b. b.lot) page_rows (omega arith) 5 (lot_cells row) (mounts_at 5 (omega arith)) old mid c.in_ok-rest.rest (nil_from_length c.in_ok-rest.rest.items (search rules)) (rw (c.in_ok-rest.was) at first) new c.behind.result later) }
