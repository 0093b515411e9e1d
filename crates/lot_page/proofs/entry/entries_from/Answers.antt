use Rattle.std.proofs.Common.{arith}
use Rattle.sqlite.specs.Held.{state}
use Rattle.sqlite.specs.declared.types.Value.TheVariants.{Int}
use Rattle.sqlite_sql.specs.declared.ops.CompareOp.TheVariants.{Ge}
use Rattle.lot_page.specs.Page.{entry_page_rows, is_from}
use Rattle.lot_page.proofs.LevelLemmas.{terms}
use Rattle.lot_page.proofs.PageLemmas.{answers}
use Rattle.lot_page.proofs.EntryLemmas.{asks_from, from_key, from_text}
use Rattle.lot_rows.proofs.EntryLemmas.{names, order, shows}
use Rattle.lot_page.proofs.WalkLemmas.{taken}
use Rattle.lot_rows.specs.Entry.{entry_cells}
use Rattle.lot_rows.specs.Tables.{entry_table}
use Rattle.lot_page.proofs.entry.entries_from.Goals as goal

pub ask-requires : goal.ask-requires
ask-requires g c = asks_from.selects

pub returns : goal.returns
returns g c =
    let told = c.ask.ensures in
    let old = state g.S.Store c.args.conn.now in
    let new = state g.S.Store c.ask.new.conn in
    record {
      pages = λ n is.
          let first =
          answers entry_table from_key (λ k. is_from (Int k)) entry_page_rows (terms Ge 0 0) shows order names from_text asks_from old new n c.ask.result (rw (c.to_cell.ensures, is) at told.shown) told.same
          (rw (c.to_cell.ensures, is) at told.refused) told.device told.err told.crash in
          taken entry_cells (λ b. b.entry) entry_page_rows (omega arith) (is_from (Int n)) old new c.ask.result first;
    }
