use Rattle.std.proofs.lemmas.Result.{err_from_is_err_and}
use Rattle.sqlite.specs.Held.{state}
use Rattle.lot_rows.proofs.StateLemmas.{early}
use Rattle.lot_migrate.proofs.FillLemmas.{is_filled, put_refused, read_refused}
use Rattle.lot_migrate.proofs.fill.fill.Goals as goal

pub returns-in_err-reading-clause-refused : goal.returns-in_err-reading-clause-refused
returns-in_err-reading-clause-refused g c clean =
    let fault = err_from_is_err_and c.from_residual-in_err-reading.result c.from_residual-in_err-reading.ensures.1 in
    let added = c.in_ok-add_later.ensures in
    rw (fault.1, fault.2)
    (read_refused (state g.S.Store c.args.tx.now.conn.now) (state g.S.Store c.add_later.new.tx.conn.now)
    (state g.S.Store c.read_book.new.tx.conn.now) c.in_err-reading.field-0.0 added.crash added.made c.requires.unlimited clean
    c.in_err-reading.ensures.reads)

pub returns-in_err-put_all-clause-refused : goal.returns-in_err-put_all-clause-refused
returns-in_err-put_all-clause-refused g c clean =
    let fault = err_from_is_err_and c.from_residual-in_err-put_all.result c.from_residual-in_err-put_all.ensures.1 in
    let added = c.in_ok-add_later.ensures in
    let read = c.in_ok-reading.ensures.reads in
    rw (fault.1, fault.2)
    (put_refused (state g.S.Store c.args.tx.now.conn.now) (state g.S.Store c.add_later.new.tx.conn.now)
    (state g.S.Store c.read_book.new.tx.conn.now) (state g.S.Store c.put_all.new.tx.conn.now)
    c.in_ok-reading.reading c.in_err-put_all.field-0.0 added.crash added.made added.stored read.crash read.same read.says
    c.requires.unlimited clean c.in_err-put_all.ensures.puts)

pub returns-clause-made : goal.returns-clause-made
returns-clause-made g c clean =
    let added = c.in_ok-add_later.ensures in
    let read = c.in_ok-reading.ensures.reads in
    let puts = c.in_ok-put_all.ensures.puts in
    let was = early (state g.S.Store c.read_book.new.tx.conn.now) (state g.S.Store c.put_all.new.tx.conn.now) puts.crash clean in
    let begun = early (state g.S.Store c.add_later.new.tx.conn.now) (state g.S.Store c.read_book.new.tx.conn.now) read.crash was in
    is_filled (state g.S.Store c.args.tx.now.conn.now) (state g.S.Store c.add_later.new.tx.conn.now)
    (state g.S.Store c.read_book.new.tx.conn.now) (state g.S.Store c.put_all.new.tx.conn.now) c.in_ok-reading.reading (added.made begun)
    (read.says was) (read.same was) (puts.turns clean)
