use Rattle.lot_inv.proofs.RowLemmas.{lot_left}
use Rattle.lot_inv.proofs.SetLemmas.{on_err}
use Rattle.lot_inv.proofs.lots.Lots.list.Goals as goal

pub returns-in_err-copy-clause-memory : goal.returns-in_err-copy-clause-memory
returns-in_err-copy-clause-memory c =
    on_err c.from_residual.result (lot_left c.args.commodity.now c.args.self.now _ _ _ c.loop-key.invariant.left c.in-Some.ensures.steps)

pub returns-in_err-copy-2-clause-memory : goal.returns-in_err-copy-2-clause-memory
returns-in_err-copy-2-clause-memory c =
    on_err c.from_residual-in_err-copy-2.result (lot_left c.args.commodity.now c.args.self.now _ _ _ c.loop-key.invariant.left c.in-Some.ensures.steps)

pub returns-in_err-push-clause-memory : goal.returns-in_err-push-clause-memory
returns-in_err-push-clause-memory c =
    on_err c.from_residual-in_err-push.result (lot_left c.args.commodity.now c.args.self.now _ _ _ c.loop-key.invariant.left c.in-Some.ensures.steps)
