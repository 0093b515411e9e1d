use Rattle.std.proofs.Common.{Err, Ok, arith, inl}
use Rattle.std.proofs.lemmas.Result.{err_from_is_err_and}
use Rattle.sqlite.specs.Held.{state}
use Rattle.lot_stored.specs.Rows.{migration_row, this_edition}
use Rattle.lot_rows.specs.Tables.{book_table, migration_table}
use Rattle.lot_write.specs.Write.{with_put}
use Rattle.lot_migrate.specs.Put.{IsFullFor, IsFullForMarks, with_marks}
use Rattle.lot_migrate.proofs.PutLemmas.{IsFull, full_since, puts_fails, puts_one, puts_then}
use Rattle.lot_migrate.proofs.fill.put_marks.Goals as goal

pub returns-in_err-put-clause-puts : goal.returns-in_err-put-clause-puts
returns-in_err-put-clause-puts g c =
    let fault = err_from_is_err_and c.from_residual.result c.from_residual.ensures.1 in
    let place = c.args.entries in
    let old = state g.S.Store c.args.tx.now.conn.now in
    let new = state g.S.Store c.put.new.tx.conn.now in
    rw (fault.1, fault.2)
    (puts_fails (with_put migration_table (migration_row place)) (with_marks place) 1 2
    (IsFull migration_table (migration_row place)) (λ tables before. IsFullForMarks place tables before 0) old new c.in_err-put.field-0.0
    (λ tables before lacks. inl lacks)
    (puts_one migration_table (migration_row place) old new (Err c.in_err-put.field-0.0) c.in_err-put.ensures.puts))

pub returns-clause-puts : goal.returns-clause-puts
returns-clause-puts g c =
    let place = c.args.entries in
    let old = state g.S.Store c.args.tx.now.conn.now in
    let mid = state g.S.Store c.put.new.tx.conn.now in
    let new = state g.S.Store c.put-2.new.tx.conn.now in
    puts_then (with_put migration_table (migration_row place)) (with_put book_table this_edition) 1 1
    (IsFull migration_table (migration_row place)) (IsFull book_table this_edition)
    (λ tables before. IsFullFor book_table this_edition tables before 1) old mid new tt c.put-2.result
    (λ tables. full_since book_table this_edition tables 1 0 1 old.now.trees mid.now.trees (omega arith))
    (puts_one migration_table (migration_row place) old mid (Ok tt) c.in_ok-put.ensures.puts)
    (puts_one book_table this_edition mid new c.put-2.result (rw c.requires.row at c.put-2.ensures.puts))
