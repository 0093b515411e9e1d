use Rattle.std.proofs.Common.{map}
use Rattle.std.proofs.lemmas.Result.{err_from_is_err_and}
use Rattle.sqlite.specs.Held.{state}
use Rattle.lot_migrate.specs.Rows.{leg_of}
use Rattle.lot_migrate.proofs.NumberLemmas.{openings_numbered}
use Rattle.lot_migrate.proofs.BookLemmas.{count_stops, fold_stops, reads_book}
use Rattle.lot_migrate.proofs.fill.read_book.Goals as goal

pub returns-in_err-entries-clause-reads : goal.returns-in_err-entries-clause-reads
returns-in_err-entries-clause-reads g c =
    let fault = err_from_is_err_and c.from_residual.result c.from_residual.ensures.1 in
    rw (fault.1, fault.2)
    (count_stops (state g.S.Store c.args.tx.now.conn.now) (state g.S.Store c.count_entries.new.tx.conn.now) c.in_err-entries.field-0.0
    c.in_err-entries.ensures.reads)

pub returns-in_err-lots-clause-reads : goal.returns-in_err-lots-clause-reads
returns-in_err-lots-clause-reads g c =
    let fault = err_from_is_err_and c.from_residual-in_err-lots.result c.from_residual-in_err-lots.ensures.1 in
    rw (fault.1, fault.2)
    (fold_stops (state g.S.Store c.args.tx.now.conn.now) (state g.S.Store c.count_entries.new.tx.conn.now)
    (state g.S.Store c.fold_legs.new.tx.conn.now) c.in_ok-entries.entries c.in_err-lots.field-0.0 c.in_ok-entries.ensures.reads
    c.in_err-lots.ensures.reads)

pub returns-clause-reads : goal.returns-clause-reads
returns-clause-reads g c =
    reads_book (state g.S.Store c.args.tx.now.conn.now) (state g.S.Store c.count_entries.new.tx.conn.now)
    (state g.S.Store c.fold_legs.new.tx.conn.now) c.in_ok-entries.entries c.in_ok-lots.lots c.in_ok-entries.ensures.reads
    c.in_ok-lots.ensures.reads c.in_ok-into_openings.field-0 c.in_ok-into_openings.ensures.lists

pub returns-clause-numbers : goal.returns-clause-numbers
returns-clause-numbers g c =
    let kept = c.in_ok-lots.ensures.kept in
    let openings = c.in_ok-into_openings.field-0.items in
    openings_numbered kept.0 kept.1 openings (c.in_ok-into_openings.ensures.lists (map leg_of kept.0) kept.2)
