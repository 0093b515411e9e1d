use Rattle.std.proofs.Common.{arith}
use Rattle.sqlite.specs.Held.{state}
use Rattle.sqlite.specs.declared.types.Value.TheVariants.{Text}
use Rattle.sqlite_sql.specs.declared.ops.CompareOp.TheVariants.{Ge}
use Rattle.lot_page.specs.Page.{is_from, page_rows}
use Rattle.lot_page.proofs.LevelLemmas.{terms}
use Rattle.lot_page.proofs.PageLemmas.{answers}
use Rattle.lot_page.proofs.LotLemmas.{asks_first, first_key, from_text}
use Rattle.lot_rows.proofs.LotLemmas.{names, order, shows}
use Rattle.lot_page.proofs.WalkLemmas.{taken}
use Rattle.lot_rows.specs.Lot.{lot_cells}
use Rattle.lot_rows.specs.Tables.{lot_table}
use Rattle.lot_page.proofs.lot.lots_from.Goals as goal

pub ask-requires : goal.ask-requires
ask-requires g c = asks_first.selects

pub returns : goal.returns
returns g c =
    let told = c.ask.ensures in
    let old = state g.S.Store c.args.conn.now in
    let new = state g.S.Store c.ask.new.conn in
    let first =
    answers lot_table first_key (λ k. is_from (Text k)) page_rows (terms Ge 0 0) shows order names (from_text 0) asks_first old new c.args.text.now c.ask.result (rw (c.to_cell.ensures) at told.shown) told.same
    (rw (c.to_cell.ensures) at told.refused) told.device told.err told.crash in
    record { pages = taken lot_cells (λ b. b.lot) page_rows (omega arith) (is_from (Text c.args.text.now)) old new c.ask.result first }
