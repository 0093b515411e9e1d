-- The row that is found tells it.
use Rattle.sqlite.specs.Held.{state}
use Rattle.std.specs.Prelude.{◌≡◌, IsTrue, ◌↔◌, Option, Some, option_map}
use Rattle.std.proofs.Common.{subst}
use Rattle.lot_rows.specs.Entry.{IsEntryRow, entry_cells, is_named}
use Rattle.lot_rows.specs.declared.entry.EntryRow.{EntryRow}
use Rattle.lot_audit.proofs.SeenLemmas.{good_filtered, tells_not, tells_whether}
use Rattle.lot_audit.proofs.has.is_first_under.Goals as goal

pub returns-in_err-found : goal.returns-in_err-found
returns-in_err-found g c = record {
  checks = tells_not _ _ _ _ (state g.S.Store c.args.conn.now) (state g.S.Store c.find.new.conn) c.in_err-found.field-0.0
      c.from_residual.result c.from_residual.ensures.1 c.in_err-found.ensures.finds
      (λ tables of. good_filtered IsEntryRow (λ (row : EntryRow). is_named c.args.key.now.source c.args.key.now.name (entry_cells row)) tables.entry of.2.good.entry);
}

pub returns : goal.returns
returns g c = record {
  checks = tells_whether _ _ _ _ (state g.S.Store c.args.conn.now) (state g.S.Store c.find.new.conn) c.in_ok-found.found _
      c.in_ok-found.ensures.finds (λ tables has good told. subst (λ (found : Option EntryRow). IsTrue c.has_number.result ↔ (option_map (λ (row : EntryRow). row.number) found ≡ Some c.args.number)) told c.has_number.ensures);
}
