use Rattle.std.proofs.Common.{rules}
use Rattle.sqlite.specs.Held.{state}
use Rattle.lot_table.proofs.SelectLemmas.{commits_nothing, shown_same, fails_undone}
use Rattle.lot_table.proofs.RefusalLemmas.{device_failed}
use Rattle.lot_table.proofs.statement.ConnectionQueryable.ask.Goals as goal

pub returns-in_err-rows-clause-err : goal.returns-in_err-rows-clause-err
returns-in_err-rows-clause-err g c clean =
    let left = fails_undone c.args.text.now _ (state g.S.Store c.args.self.now) (state g.S.Store c.query_all.new.self) c.in_err-rows.field-0.0 (c.in_err-rows.ensures.err clean) in search rules

pub returns-in_err-rows-clause-crash : goal.returns-in_err-rows-clause-crash
returns-in_err-rows-clause-crash g c = commits_nothing c.args.text.now c.requires _ (state g.S.Store c.args.self.now) (state g.S.Store c.query_all.new.self) c.query_all.ensures.survives

pub returns-clause-same : goal.returns-clause-same
returns-clause-same g c clean = shown_same c.args.text.now c.requires _ (state g.S.Store c.args.self.now) (state g.S.Store c.query_all.new.self) c.in_ok-rows.rows.items (c.in_ok-rows.ensures.ok clean)

pub returns-clause-crash : goal.returns-clause-crash
returns-clause-crash g c = commits_nothing c.args.text.now c.requires _ (state g.S.Store c.args.self.now) (state g.S.Store c.query_all.new.self) c.query_all.ensures.survives

pub returns-in_err-rows-clause-device : goal.returns-in_err-rows-clause-device
returns-in_err-rows-clause-device g c clean device =
    let told = rw device at c.from_residual.ensures in
    device_failed c.args.text.now _ (state g.S.Store c.args.self.now) (state g.S.Store c.query_all.new.self) c.in_err-rows.field-0.0 c.requires (c.in_err-rows.ensures.err clean) (cc)
