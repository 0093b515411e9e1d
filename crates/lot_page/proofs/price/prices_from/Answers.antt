use Rattle.std.proofs.Common.{arith}
use Rattle.sqlite.specs.Held.{state}
use Rattle.sqlite.specs.declared.types.Value.TheVariants.{Text}
use Rattle.sqlite_sql.specs.declared.ops.CompareOp.TheVariants.{Ge}
use Rattle.lot_page.specs.Page.{is_from, page_rows}
use Rattle.lot_page.proofs.LevelLemmas.{terms}
use Rattle.lot_page.proofs.PageLemmas.{answers}
use Rattle.lot_page.proofs.PriceLemmas.{asks_from, from_key, from_text}
use Rattle.lot_rows.proofs.PriceLemmas.{names, order, shows}
use Rattle.lot_page.proofs.WalkLemmas.{taken}
use Rattle.lot_rows.specs.Price.{price_cells}
use Rattle.lot_rows.specs.Tables.{price_table}
use Rattle.lot_page.proofs.price.prices_from.Goals as goal

pub ask-requires : goal.ask-requires
ask-requires g c = asks_from.selects

pub returns : goal.returns
returns g c =
    let told = c.ask.ensures in
    let old = state g.S.Store c.args.conn.now in
    let new = state g.S.Store c.ask.new.conn in
    let first =
    answers price_table from_key (λ k. is_from (Text k)) page_rows (terms Ge 0 0) shows order names from_text asks_from old new c.args.text.now c.ask.result (rw (c.to_cell.ensures) at told.shown) told.same
    (rw (c.to_cell.ensures) at told.refused) told.device told.err told.crash in
    record { pages = taken price_cells (λ b. b.price) page_rows (omega arith) (is_from (Text c.args.text.now)) old new c.ask.result first }
