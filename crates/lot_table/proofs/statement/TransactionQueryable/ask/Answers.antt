use Rattle.std.proofs.Common.{rules}
use Rattle.sqlite.specs.Held.{state}
use Rattle.lot_table.proofs.SelectLemmas.{shown_same, fails_undone}
use Rattle.lot_table.proofs.RefusalLemmas.{device_failed, never_late}
use Rattle.lot_table.proofs.statement.TransactionQueryable.ask.Goals as goal

pub returns-in_err-rows-clause-refused : goal.returns-in_err-rows-clause-refused
returns-in_err-rows-clause-refused g c clean =
    let told = c.from_residual.ensures in
    let fails = never_late c.args.text.now _ (state g.S.Store c.args.self.now.conn.now) (state g.S.Store c.query_all.new.self.conn.now) c.in_err-rows.field-0.0 c.requires (c.in_err-rows.ensures.err clean) in search rules

pub returns-in_err-rows-clause-device : goal.returns-in_err-rows-clause-device
returns-in_err-rows-clause-device g c clean device =
    let told = rw device at c.from_residual.ensures in
    device_failed c.args.text.now _ (state g.S.Store c.args.self.now.conn.now) (state g.S.Store c.query_all.new.self.conn.now) c.in_err-rows.field-0.0 c.requires
    (never_late c.args.text.now _ (state g.S.Store c.args.self.now.conn.now) (state g.S.Store c.query_all.new.self.conn.now) c.in_err-rows.field-0.0 c.requires (c.in_err-rows.ensures.err clean)) (cc)

pub returns-in_err-rows-clause-err : goal.returns-in_err-rows-clause-err
returns-in_err-rows-clause-err g c clean =
    let left = fails_undone c.args.text.now _ (state g.S.Store c.args.self.now.conn.now) (state g.S.Store c.query_all.new.self.conn.now) c.in_err-rows.field-0.0
    (never_late c.args.text.now _ (state g.S.Store c.args.self.now.conn.now) (state g.S.Store c.query_all.new.self.conn.now) c.in_err-rows.field-0.0 c.requires (c.in_err-rows.ensures.err clean)) in search rules

pub returns-clause-same : goal.returns-clause-same
returns-clause-same g c clean = shown_same c.args.text.now c.requires _ (state g.S.Store c.args.self.now.conn.now) (state g.S.Store c.query_all.new.self.conn.now) c.in_ok-rows.rows.items (c.in_ok-rows.ensures.ok clean)
