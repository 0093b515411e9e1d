use Rattle.std.proofs.Common.{inl, inr}
use Rattle.sqlite.specs.Held.{state}
use Rattle.lot_cli.proofs.InputLemmas.{untouched}
use Rattle.lot_cli.proofs.reconciliation.reconcile.Goals as goal

pub reconcile_with-requires-clause-said : goal.reconcile_with-requires-clause-said
reconcile_with-requires-clause-said g c = let (input, all, (lines, is, has)) = c.in-Ok.ensures.ok in (lines, has)

pub returns-in-Ok-clause-reconciles : goal.returns-in-Ok-clause-reconciles
returns-in-Ok-clause-reconciles g c =
    let (input, all, (lines, is, has)) = c.in-Ok.ensures.ok in
    let (agrees, reports) = c.reconcile_with.ensures.reports lines has in
    inr (input, all, lines, is, agrees, reports)

pub returns-in-Err-clause-reconciles : goal.returns-in-Err-clause-reconciles
returns-in-Err-clause-reconciles g c =
    rw (c.halted.ensures.same)
    (inl (c.in-Err.fault, c.in-Err.ensures.err, untouched (state g.S.Store c.args.conn), c.halted.ensures.says))
