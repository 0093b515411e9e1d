use Rattle.std.proofs.Common.{arith, rules}
use Rattle.std.proofs.lemmas.List.{nil_from_length}
use Rattle.sqlite.specs.Held.{state}
use Rattle.sqlite_sql.specs.declared.ops.CompareOp.TheVariants.{Ge}
use Rattle.lot_page.specs.Page.{level, page_rows}
use Rattle.lot_page.proofs.LevelLemmas.{terms}
use Rattle.lot_page.proofs.PageLemmas.{answers}
use Rattle.lot_page.proofs.PriceLemmas.{asks_quote, mounts_1, past_first, quote_key, quote_text}
use Rattle.lot_rows.proofs.PriceLemmas.{names, order, shows}
use Rattle.lot_page.proofs.WalkLemmas.{later_pages, level_fails, level_pages}
use Rattle.lot_rows.specs.Price.{price_cells}
use Rattle.lot_rows.specs.Tables.{price_table}
use Rattle.lot_page.proofs.price.behind_quote.Goals as goal

pub ask-requires : goal.ask-requires
ask-requires g c = asks_quote.selects

pub returns-in_err-rest : goal.returns-in_err-rest
returns-in_err-rest g c =
    let told = c.ask.ensures in
    let row = c.args.row.now in
    let old = state g.S.Store c.args.conn.now in
    let new = state g.S.Store c.ask.new.conn in
    let first =
    answers price_table quote_key (λ k. level 1 0 (price_cells k)) page_rows (terms Ge 1 0) shows order names quote_text asks_quote old new row c.ask.result (rw (c.to_cell.ensures, c.to_cell-2.ensures, c.requires.quote) at told.shown) told.same
    (rw (c.to_cell.ensures, c.to_cell-2.ensures, c.requires.quote) at told.refused) told.device told.err told.crash in
    let pages = level_fails price_cells (λ b. b.price) page_rows (omega arith) 1 (price_cells row) mounts_1 old new c.in_err-rest.field-0.0 (rw (c.in_err-rest.was) at first) in
    record { pages = search rules }

pub returns-then-not-is_empty : goal.returns-then-not-is_empty
returns-then-not-is_empty g c =
    let told = c.ask.ensures in
    let row = c.args.row.now in
    let old = state g.S.Store c.args.conn.now in
    let new = state g.S.Store c.ask.new.conn in
    let first =
    answers price_table quote_key (λ k. level 1 0 (price_cells k)) page_rows (terms Ge 1 0) shows order names quote_text asks_quote old new row c.ask.result (rw (c.to_cell.ensures, c.to_cell-2.ensures, c.requires.quote) at told.shown) told.same
    (rw (c.to_cell.ensures, c.to_cell-2.ensures, c.requires.quote) at told.refused) told.device told.err told.crash in
    record { pages = level_pages price_cells (λ b. b.price) page_rows (omega arith) 1 (price_cells row) mounts_1 old new c.in_ok-rest.rest (search rules) (rw (c.in_ok-rest.was) at first) }

pub returns : goal.returns
returns g c =
    let told = c.ask.ensures in
    let row = c.args.row.now in
    let old = state g.S.Store c.args.conn.now in
    let mid = state g.S.Store c.ask.new.conn in
    let first =
    answers price_table quote_key (λ k. level 1 0 (price_cells k)) page_rows (terms Ge 1 0) shows order names quote_text asks_quote old mid row c.ask.result (rw (c.to_cell.ensures, c.to_cell-2.ensures, c.requires.quote) at told.shown) told.same
    (rw (c.to_cell.ensures, c.to_cell-2.ensures, c.requires.quote) at told.refused) told.device told.err told.crash in
    let new = state g.S.Store c.prices_from.new.conn in
    let later = past_first row mid new c.prices_from.result (rw (c.requires.base) at c.prices_from.ensures.pages) in
    record { pages = later_pages price_cells (λ b. b.price) page_rows (omega arith) 1 (price_cells row) mounts_1 old mid c.in_ok-rest.rest (nil_from_length c.in_ok-rest.rest.items (search rules)) (rw (c.in_ok-rest.was) at first) new c.prices_from.result later }
