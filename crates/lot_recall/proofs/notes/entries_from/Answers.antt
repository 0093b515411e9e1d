use Rattle.std.proofs.lemmas.Result.{err_from_is_err_and}
use Rattle.sqlite.specs.Held.{state}
use Rattle.lot_rows.specs.Entry.{IsEntryRow, entry_cells}
use Rattle.lot_rows.specs.Tables.{Tables}
use Rattle.lot_recall.specs.Recall.{few_entries}
use Rattle.lot_recall.proofs.FewLemmas.{few_read, few_unread}
use Rattle.lot_recall.proofs.notes.entries_from.Goals as goal

pub returns-in_err-rows : goal.returns-in_err-rows
returns-in_err-rows g c =
    let fault = err_from_is_err_and c.from_residual.result c.from_residual.ensures.1 in
    record {
      reads = rw (fault.1, fault.2)
          (few_unread entry_cells IsEntryRow (λ (b : Tables). b.entry) few_entries c.args.first (state g.S.Store c.args.conn.now) (state g.S.Store c.page_from.new.conn) c.in_err-rows.field-0.0 c.in_err-rows.ensures.takes);
    }

pub returns : goal.returns
returns g c = record {
  reads =
      few_read entry_cells IsEntryRow (λ (b : Tables). b.entry) few_entries c.args.first c.in_ok-rows.rows (state g.S.Store c.args.conn.now) (state g.S.Store c.page_from.new.conn) c.read_all.result c.in_ok-rows.ensures.takes
      (rw c.deref.ensures.value at c.read_all.ensures.ok) c.read_all.ensures.good (rw c.deref.ensures.value at c.read_all.ensures.damaged)
      c.read_all.ensures.no_device;
}
