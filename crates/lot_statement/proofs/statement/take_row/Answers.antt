use Rattle.std.proofs.Common.{◌+◌, ◌∙◌, Err, ap, subst, sym, ℕ}
use Rattle.csv.specs.Records.{fields_of}
use Rattle.lot_statement.specs.Reading.{TakesRow}
use Rattle.lot_statement.proofs.LineLemmas.{faulty_row}
use Rattle.lot_statement.proofs.statement.take_row.Goals as goal

pub returns-in-Ok : goal.returns-in-Ok
returns-in-Ok c lines has = c.in-Ok.ensures lines has

pub returns-in-Err : goal.returns-in-Err
returns-in-Err c lines has =
    subst (λ fault. TakesRow lines (fields_of c.args.written.now) c.take.new.said (Err fault)) (sym c.fault_at.ensures)
    (faulty_row lines (fields_of c.args.written.now) c.take.new.said (c.len-row.result + 1) c.in-Err.fault
    (ap (λ (n : ℕ). n + 1) (c.len-row.ensures.len ∙ has.count)) (c.in-Err.ensures lines has))
