use Rattle.std.proofs.Common.{Err, ap}
use Rattle.std.proofs.lemmas.Result.{err_from_is_err_and}
use Rattle.sqlite.specs.Held.{state}
use Rattle.lot_rows.proofs.EntryLemmas.{greatest_selects}
use Rattle.lot_migrate.proofs.CountLemmas.{count_fails, count_reads}
use Rattle.lot_migrate.proofs.fill.count_entries.Goals as goal

pub ask-requires : goal.ask-requires
ask-requires g c = greatest_selects

pub returns-in_err-rows-clause-reads : goal.returns-in_err-rows-clause-reads
returns-in_err-rows-clause-reads g c =
    let fault = err_from_is_err_and c.from_residual.result c.from_residual.ensures.1 in
    rw (fault.1, fault.2)
    (count_fails (state g.S.Store c.args.tx.now.conn.now) (state g.S.Store c.ask.new.conn.conn.now) c.in_err-rows.field-0.0
    c.in_err-rows.ensures.refused (λ clean is. c.in_err-rows.ensures.device clean (ap Err is)) c.in_err-rows.ensures.err
    c.in_err-rows.ensures.crash)

pub returns-clause-reads : goal.returns-clause-reads
returns-clause-reads g c =
    count_reads (state g.S.Store c.args.tx.now.conn.now) (state g.S.Store c.ask.new.conn.conn.now) c.in_ok-rows.rows.items
    c.first_number.result c.in_ok-rows.ensures.shown c.in_ok-rows.ensures.same c.in_ok-rows.ensures.crash
    (rw c.deref.ensures.value at c.first_number.ensures.ok) (rw c.deref.ensures.value at c.first_number.ensures.damaged)
    c.first_number.ensures.no_device
