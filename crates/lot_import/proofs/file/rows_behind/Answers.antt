-- One more record says a row, or is the first faulty one, or is one too many.
use Rattle.std.proofs.Common.{◌≡◌, ◌++◌, ◌∷◌, ◌+◌, ℕ, List, [], Err, length, sym, ◌∙◌, ap, subst, arith}
use Rattle.std.proofs.lemmas.List.{length_push}
use Rattle.csv.specs.Records.{fields_of}
use Rattle.lot_import.specs.File.{SayRows}
use Rattle.lot_import.specs.Reading.{GivesRow, HasRecordFault, records_left}
use Rattle.lot_import.specs.declared.fault.RowsFault.{RowsFault}
use Rattle.lot_import.specs.declared.fault.RowsFault.TheVariants as Faults
use Rattle.lot_import.specs.declared.row.Row.{Row}
use Rattle.lot_import.proofs.FileLemmas.{all_read, at_record, behind_row, handed, handed_as, more_rows, moved}
use Rattle.lot_import.proofs.file.rows_behind.Goals as goal

pub loop-rows-preserved : goal.loop-rows-preserved
loop-rows-preserved c =
    let l = c.loop-rows in
    let written = fields_of c.next.new.written in
    let row = c.in_ok-row.row in
    let pushed = c.in_ok-push.ensures.items in
    let long = ap length pushed ∙ length_push l.rows.items row in
    record {
      is_open = c.in_ok-next.ensures.open c.if-branch.true;
      done = l.invariant.done ++ written ∷ [];
      all = moved (records_left c.args.reader.now) l.invariant.done (records_left l.reader) (records_left c.next.new.reader) written
          l.invariant.all (c.in_ok-next.ensures.some c.if-branch.true);
      said = subst (λ (rows : List Row). SayRows c.args.version (l.invariant.done ++ written ∷ []) rows) (sym pushed)
          (more_rows c.args.version l.invariant.done l.rows.items written row l.invariant.said c.in_ok-row.ensures.1);
      few = omega (arith, long, l.rows.ok, c.len.ensures, c.in_ok-row.ensures.0);
    }

pub returns-clause-few : goal.returns-clause-few
returns-clause-few c =
    let l = c.loop-rows in
    all_read c.args.version (records_left c.args.reader.now) l.invariant.done (records_left l.reader) l.rows.items l.invariant.all
    (c.in_ok-next.ensures.none c.if-branch.false) l.invariant.said l.invariant.few

pub returns-in_err-row-clause-fault : goal.returns-in_err-row-clause-fault
returns-in_err-row-clause-fault c =
    let l = c.loop-rows in
    let all = records_left c.args.reader.now in
    let written = fields_of c.next.new.written in
    let fault = c.in_err-row.field-0.0 in
    let count : c.len.result + 1 ≡ length l.rows.items + 1 = omega (arith, l.rows.ok, c.len.ensures) in
    handed c.from_residual-in_err-row.result (HasRecordFault c.args.version all) fault c.from_residual-in_err-row.ensures.1
    (at_record c.args.version all l.invariant.done (records_left l.reader) (records_left c.next.new.reader) written l.rows.items fault
    l.invariant.all (c.in_ok-next.ensures.some c.if-branch.true) l.invariant.said l.invariant.few
    (subst (λ (n : ℕ). GivesRow c.args.version n written (Err fault)) count c.in_err-row.ensures))

pub returns-in_err-row-clause-memory : goal.returns-in_err-row-clause-memory
returns-in_err-row-clause-memory c e =
    let l = c.loop-rows in
    let all = records_left c.args.reader.now in
    let written = fields_of c.next.new.written in
    let fault = c.in_err-row.field-0.0 in
    let same = handed_as c.from_residual-in_err-row.result fault Faults.Memory c.from_residual-in_err-row.ensures.1 e in
    let says = subst (λ (f : RowsFault). GivesRow c.args.version (c.len.result + 1) written (Err f)) same c.in_err-row.ensures in
    behind_row c.args.version all l.invariant.done (records_left l.reader) c.next.new.reader written l.rows.items says.1.0
    l.invariant.all (c.in_ok-next.ensures.some c.if-branch.true) l.invariant.said
    (omega (arith, l.rows.ok, c.len.ensures, says.0)) says.1.1

pub returns-in_err-push-clause-memory : goal.returns-in_err-push-clause-memory
returns-in_err-push-clause-memory c e =
    let l = c.loop-rows in
    let all = records_left c.args.reader.now in
    behind_row c.args.version all l.invariant.done (records_left l.reader) c.next.new.reader (fields_of c.next.new.written) l.rows.items
    c.in_ok-row.row l.invariant.all (c.in_ok-next.ensures.some c.if-branch.true) l.invariant.said
    (omega (arith, l.rows.ok, c.len.ensures, c.in_ok-row.ensures.0)) c.in_ok-row.ensures.1
