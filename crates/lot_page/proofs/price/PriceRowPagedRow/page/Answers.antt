use Rattle.std.proofs.Common.{arith, rules}
use Rattle.std.proofs.lemmas.List.{nil_from_length}
use Rattle.sqlite.specs.Held.{state}
use Rattle.sqlite_sql.specs.declared.ops.CompareOp.TheVariants.{Gt}
use Rattle.lot_page.specs.Page.{level, page_rows}
use Rattle.lot_page.proofs.LevelLemmas.{terms}
use Rattle.lot_page.proofs.PageLemmas.{answers}
use Rattle.lot_page.proofs.PriceLemmas.{all_prices, asks_day, day_key, day_text, mounts_2}
use Rattle.lot_rows.proofs.PriceLemmas.{names, order, shows}
use Rattle.lot_page.proofs.WalkLemmas.{later_pages, level_ends, level_fails, level_pages}
use Rattle.lot_rows.specs.Price.{price_cells}
use Rattle.lot_rows.specs.Tables.{price_table}
use Rattle.lot_page.proofs.price.PriceRowPagedRow.page.Goals as goal

pub returns-in_default : goal.returns-in_default
returns-in_default g c =
    record { pages = rw (c.in_default.is) (all_prices (state g.S.Store c.args.conn.now) (state g.S.Store c.prices_from.new.conn) c.prices_from.result c.prices_from.ensures.pages) }

pub ask-requires : goal.ask-requires
ask-requires g c = asks_day.selects

pub returns-in_err-rest : goal.returns-in_err-rest
returns-in_err-rest g c =
    let told = c.ask.ensures in
    let row = c.in-Some.row in
    let old = state g.S.Store c.args.conn.now in
    let new = state g.S.Store c.ask.new.conn in
    let first =
    answers price_table day_key (λ k. level 2 0 (price_cells k)) page_rows (terms Gt 2 0) shows order names day_text asks_day old new row c.ask.result (rw (c.to_cell.ensures, c.to_cell-2.ensures, c.to_cell-3.ensures, c.to_cell-4.ensures) at told.shown) told.same
    (rw (c.to_cell.ensures, c.to_cell-2.ensures, c.to_cell-3.ensures, c.to_cell-4.ensures) at told.refused) told.device told.err told.crash in
    let pages = level_fails price_cells (λ b. b.price) page_rows (omega arith) 2 (price_cells row) mounts_2 old new c.in_err-rest.field-0.0 (rw (c.in_err-rest.was) at first) in
    record { pages = rw (c.in-Some.is) (search rules) }

pub returns-then-not-is_empty : goal.returns-then-not-is_empty
returns-then-not-is_empty g c =
    let told = c.ask.ensures in
    let row = c.in-Some.row in
    let old = state g.S.Store c.args.conn.now in
    let new = state g.S.Store c.ask.new.conn in
    let first =
    answers price_table day_key (λ k. level 2 0 (price_cells k)) page_rows (terms Gt 2 0) shows order names day_text asks_day old new row c.ask.result (rw (c.to_cell.ensures, c.to_cell-2.ensures, c.to_cell-3.ensures, c.to_cell-4.ensures) at told.shown) told.same
    (rw (c.to_cell.ensures, c.to_cell-2.ensures, c.to_cell-3.ensures, c.to_cell-4.ensures) at told.refused) told.device told.err told.crash in
    record { pages = rw (c.in-Some.is) (level_pages price_cells (λ b. b.price) page_rows (omega arith) 2 (price_cells row) mounts_2 old new c.in_ok-rest.rest (search rules) (rw (c.in_ok-rest.was) at first)) }

pub returns-in_err-base : goal.returns-in_err-base
returns-in_err-base g c =
    let told = c.ask.ensures in
    let row = c.in-Some.row in
    let old = state g.S.Store c.args.conn.now in
    let new = state g.S.Store c.ask.new.conn in
    let first =
    answers price_table day_key (λ k. level 2 0 (price_cells k)) page_rows (terms Gt 2 0) shows order names day_text asks_day old new row c.ask.result (rw (c.to_cell.ensures, c.to_cell-2.ensures, c.to_cell-3.ensures, c.to_cell-4.ensures) at told.shown) told.same
    (rw (c.to_cell.ensures, c.to_cell-2.ensures, c.to_cell-3.ensures, c.to_cell-4.ensures) at told.refused) told.device told.err told.crash in
    let pages = level_ends price_cells (λ b. b.price) page_rows (omega arith) 2 (price_cells row) mounts_2 old new c.in_ok-rest.rest (rw (c.in_ok-rest.was) at first) in
    record { pages = rw (c.in-Some.is) (search rules) }

pub returns-in_err-quote : goal.returns-in_err-quote
returns-in_err-quote g c =
    let told = c.ask.ensures in
    let row = c.in-Some.row in
    let old = state g.S.Store c.args.conn.now in
    let new = state g.S.Store c.ask.new.conn in
    let first =
    answers price_table day_key (λ k. level 2 0 (price_cells k)) page_rows (terms Gt 2 0) shows order names day_text asks_day old new row c.ask.result (rw (c.to_cell.ensures, c.to_cell-2.ensures, c.to_cell-3.ensures, c.to_cell-4.ensures) at told.shown) told.same
    (rw (c.to_cell.ensures, c.to_cell-2.ensures, c.to_cell-3.ensures, c.to_cell-4.ensures) at told.refused) told.device told.err told.crash in
    let pages = level_ends price_cells (λ b. b.price) page_rows (omega arith) 2 (price_cells row) mounts_2 old new c.in_ok-rest.rest (rw (c.in_ok-rest.was) at first) in
    record { pages = rw (c.in-Some.is) (search rules) }

pub returns : goal.returns
returns g c =
    let told = c.ask.ensures in
    let row = c.in-Some.row in
    let old = state g.S.Store c.args.conn.now in
    let mid = state g.S.Store c.ask.new.conn in
    let first =
    answers price_table day_key (λ k. level 2 0 (price_cells k)) page_rows (terms Gt 2 0) shows order names day_text asks_day old mid row c.ask.result (rw (c.to_cell.ensures, c.to_cell-2.ensures, c.to_cell-3.ensures, c.to_cell-4.ensures) at told.shown) told.same
    (rw (c.to_cell.ensures, c.to_cell-2.ensures, c.to_cell-3.ensures, c.to_cell-4.ensures) at told.refused) told.device told.err told.crash in
    let new = state g.S.Store c.behind_quote.new.conn in
    let later = c.behind_quote.ensures.pages in
    record { pages = rw (c.in-Some.is) (later_pages price_cells (λ b. b.price) page_rows (omega arith) 2 (price_cells row) mounts_2 old mid c.in_ok-rest.rest (nil_from_length c.in_ok-rest.rest.items (search rules)) (rw (c.in_ok-rest.was) at first) new c.behind_quote.result later) }
