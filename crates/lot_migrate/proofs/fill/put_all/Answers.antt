use Rattle.std.proofs.Common.{◌∙◌, ◌+◌, Err, Ok, inl, length}
use Rattle.std.proofs.lemmas.Result.{err_from_is_err_and}
use Rattle.sqlite.specs.Held.{state}
use Rattle.lot_write.specs.Write.{written_all}
use Rattle.lot_migrate.specs.Put.{IsFullForAll, IsFullForMarks, IsFullForOpenings, opening_writes, with_all, with_marks}
use Rattle.lot_migrate.proofs.PutLemmas.{marks_since, puts_fails, puts_openings, puts_then}
use Rattle.lot_migrate.proofs.fill.put_all.Goals as goal

pub returns-in_err-write_all-clause-puts : goal.returns-in_err-write_all-clause-puts
returns-in_err-write_all-clause-puts g c =
    let fault = err_from_is_err_and c.from_residual-in_err-write_all.result c.from_residual-in_err-write_all.ensures.1 in
    let openings = c.args.reading.openings.items in
    let old = state g.S.Store c.args.tx.now.conn.now in
    let new = state g.S.Store c.write_all.new.tx.conn.now in
    rw (fault.1, fault.2)
    (puts_fails (written_all (opening_writes openings)) (with_all openings c.args.reading.entries) (length openings) (2 + length openings)
    (IsFullForOpenings openings) (IsFullForAll openings c.args.reading.entries) old new c.in_err-write_all.field-0.0
    (λ tables before lacks. inl lacks)
    (puts_openings openings old new (Err c.in_err-write_all.field-0.0)
    (rw (c.deref.ensures.value ∙ c.in_ok-writes.ensures.ok) at c.in_err-write_all.ensures.writes)))

pub returns-clause-puts : goal.returns-clause-puts
returns-clause-puts g c =
    let openings = c.args.reading.openings.items in
    let place = c.args.reading.entries in
    let old = state g.S.Store c.args.tx.now.conn.now in
    let mid = state g.S.Store c.write_all.new.tx.conn.now in
    let new = state g.S.Store c.put_marks.new.tx.conn.now in
    puts_then (written_all (opening_writes openings)) (with_marks place) (length openings) 2 (IsFullForOpenings openings)
    (λ tables before. IsFullForMarks place tables before 0) (λ tables before. IsFullForMarks place tables before (length openings))
    old mid new tt c.put_marks.result (λ tables. marks_since place tables (length openings) old.now.trees mid.now.trees)
    (puts_openings openings old mid (Ok tt) (rw (c.deref.ensures.value ∙ c.in_ok-writes.ensures.ok) at c.in_ok-write_all.ensures.writes))
    c.put_marks.ensures.puts
