-- The accounts are asked for once.
use Rattle.sqlite.specs.Held.{state}
use Rattle.lot_call.proofs.LookLemmas.{looked}
use Rattle.lot_call.proofs.misnamed.accounts_of.Goals as goal

pub returns : goal.returns
returns g c =
    looked (state g.S.Store c.args.conn.now) (state g.S.Store c.list_accounts-accounts.new.db) c.list_accounts-accounts.result c.list_accounts-accounts.ensures.looks
