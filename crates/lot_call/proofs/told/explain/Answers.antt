-- The book is looked at for the account, and then for what was refused.
use Rattle.sqlite.specs.Held.{state}
use Rattle.lot_call.proofs.LookLemmas.{looked_then}
use Rattle.lot_call.proofs.told.explain.Goals as goal

pub returns : goal.returns
returns g c =
    looked_then (state g.S.Store c.args.conn.now) (state g.S.Store c.warn_of_account.new.conn) (state g.S.Store c.explain_lines.new.conn) c.warn_of_account.ensures c.explain_lines.ensures
