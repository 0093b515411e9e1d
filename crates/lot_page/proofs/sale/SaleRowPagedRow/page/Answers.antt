use Rattle.std.proofs.Common.{arith, pos, refl, rules, ◌+ℤ◌}
use Rattle.std.proofs.lemmas.List.{nil_from_length}
use Rattle.sqlite.specs.Held.{state}
use Rattle.sqlite_sql.specs.declared.ops.CompareOp.TheVariants.{Gt}
use Rattle.lot_page.specs.Page.{level, page_rows}
use Rattle.lot_page.proofs.LevelLemmas.{terms}
use Rattle.lot_page.proofs.PageLemmas.{answers}
use Rattle.lot_page.proofs.SaleLemmas.{all_sales, asks_posting, mounts_1, past_first, posting_key, posting_text}
use Rattle.lot_rows.proofs.SaleLemmas.{names, order, shows}
use Rattle.lot_page.proofs.WalkLemmas.{later_pages, level_fails, level_pages}
use Rattle.lot_rows.specs.Sale.{sale_cells}
use Rattle.lot_rows.specs.Tables.{sale_table}
use Rattle.lot_page.proofs.sale.SaleRowPagedRow.page.Goals as goal

pub returns-in_default : goal.returns-in_default
returns-in_default g c =
    record { pages = rw (c.in_default.is) (all_sales (state g.S.Store c.args.conn.now) (state g.S.Store c.sales_from.new.conn) c.sales_from.result (c.sales_from.ensures.pages (pos 0) refl)) }

pub ask-requires : goal.ask-requires
ask-requires g c = asks_posting.selects

pub returns-in_err-rest : goal.returns-in_err-rest
returns-in_err-rest g c =
    let told = c.ask.ensures in
    let row = c.in-Some.row in
    let old = state g.S.Store c.args.conn.now in
    let new = state g.S.Store c.ask.new.conn in
    let first =
    answers sale_table posting_key (λ k. level 1 0 (sale_cells k)) page_rows (terms Gt 1 0) shows order names posting_text asks_posting old new row c.ask.result (rw (c.to_cell.ensures, c.to_cell-2.ensures, c.to_cell-3.ensures) at told.shown) told.same
    (rw (c.to_cell.ensures, c.to_cell-2.ensures, c.to_cell-3.ensures) at told.refused) told.device told.err told.crash in
    let pages = level_fails sale_cells (λ b. b.sale) page_rows (omega arith) 1 (sale_cells row) mounts_1 old new c.in_err-rest.field-0.0 (rw (c.in_err-rest.was) at first) in
    record { pages = rw (c.in-Some.is) (search rules) }

pub returns-then-not-is_empty : goal.returns-then-not-is_empty
returns-then-not-is_empty g c =
    let told = c.ask.ensures in
    let row = c.in-Some.row in
    let old = state g.S.Store c.args.conn.now in
    let new = state g.S.Store c.ask.new.conn in
    let first =
    answers sale_table posting_key (λ k. level 1 0 (sale_cells k)) page_rows (terms Gt 1 0) shows order names posting_text asks_posting old new row c.ask.result (rw (c.to_cell.ensures, c.to_cell-2.ensures, c.to_cell-3.ensures) at told.shown) told.same
    (rw (c.to_cell.ensures, c.to_cell-2.ensures, c.to_cell-3.ensures) at told.refused) told.device told.err told.crash in
    record { pages = rw (c.in-Some.is) (level_pages sale_cells (λ b. b.sale) page_rows (omega arith) 1 (sale_cells row) mounts_1 old new c.in_ok-rest.rest (search rules) (rw (c.in_ok-rest.was) at first)) }

pub returns : goal.returns
returns g c =
    let told = c.ask.ensures in
    let row = c.in-Some.row in
    let old = state g.S.Store c.args.conn.now in
    let mid = state g.S.Store c.ask.new.conn in
    let first =
    answers sale_table posting_key (λ k. level 1 0 (sale_cells k)) page_rows (terms Gt 1 0) shows order names posting_text asks_posting old mid row c.ask.result (rw (c.to_cell.ensures, c.to_cell-2.ensures, c.to_cell-3.ensures) at told.shown) told.same
    (rw (c.to_cell.ensures, c.to_cell-2.ensures, c.to_cell-3.ensures) at told.refused) told.device told.err told.crash in
    let new = state g.S.Store c.sales_from-2.new.conn in
    let later = past_first row mid new c.sales_from-2.result (c.sales_from-2.ensures.pages (pos row.entry +ℤ pos 1) c.number_behind.ensures) in
    record { pages = rw (c.in-Some.is) (later_pages sale_cells (λ b. b.sale) page_rows (omega arith) 1 (sale_cells row) mounts_1 old mid c.in_ok-rest.rest (nil_from_length c.in_ok-rest.rest.items (search rules)) (rw (c.in_ok-rest.was) at first) new c.sales_from-2.result later) }
