-- The fault of a row is that of the file, and so is one of the order.
use Rattle.std.specs.Prelude.{List, [], Result, Ok, Err, IfErr}
use Rattle.std.proofs.Common.{subst, sym}
use Rattle.lot_export.specs.Export.{HasFault}
use Rattle.lot_export.specs.Lines.{IsOrderFault, orders_of}
use Rattle.lot_export.specs.declared.entry.Entry.{Entry}
use Rattle.lot_export.specs.declared.fault.ExportFault.{ExportFault}
use Rattle.lot_export.proofs.EntryLemmas.{order_fault, row_fault}
use Rattle.lot_profile.specs.declared.table.Table.{Table}
use Rattle.lot_export.proofs.names.named_rows.Goals as goal

pub returns-in-Err-entries-clause-fault : goal.returns-in-Err-entries-clause-fault
returns-in-Err-entries-clause-fault c =
    row_fault c.args.profile.now [] c.args.bytes.now c.in-Ok.rows.items c.in-Err-entries.fault c.in-Ok.ensures.rows (rw c.deref.ensures.value at c.in-Err-entries.ensures.fault)

pub returns-clause-fault : goal.returns-clause-fault
returns-clause-fault c = by c.judged.result c.judged.ensures.fault
  where
    by : {X : Type 0} (result : Result X ExportFault)
        → IfErr result (IsOrderFault (orders_of c.as_slice.result.now) c.as_slice-2.result.now)
        → IfErr result (HasFault c.args.profile.now [] c.args.bytes.now)
    by (Ok rows) fails = tt
    by (Err given) fails =
        order_fault c.args.profile.now [] c.args.bytes.now c.in-Ok-entries.entries given
        (record { rows = c.in-Ok.rows.items; are_rows = c.in-Ok.ensures.rows; say = rw c.deref.ensures.value at c.in-Ok-entries.ensures.ok })
        (subst (λ (entries : List Entry). IsOrderFault (orders_of c.args.profile.now.tables) entries given) c.as_slice-2.ensures
        (subst (λ (tables : List Table). IsOrderFault (orders_of tables) c.as_slice-2.result.now given) c.as_slice.ensures fails))
