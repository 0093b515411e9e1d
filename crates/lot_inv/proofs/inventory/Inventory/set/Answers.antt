-- The map with the units set at the position.
use Rattle.std.proofs.Common.{option_copied}
use Rattle.lot_inv.proofs.SetLemmas.{on_err-both, on_err-then, on_ok-then, stock_alike, stock_set, stores_more}
use Rattle.lot_inv.proofs.inventory.Inventory.set.Goals as goal

pub returns-clause-ok : goal.returns-clause-ok
returns-clause-ok c =
    on_ok-then c.set.result (stock_set c.self.inside.held.entries c.set.new.held.entries c.args.self.now (c.args.commodity.now, option_copied c.args.key) c.args.units c.args.opening
    c.self.invariant.0 c.set.ensures.holdings c.self.view_is) c.set.ensures.ok

pub returns-clause-memory : goal.returns-clause-memory
returns-clause-memory c =
    on_err-both c.set.result (stores_more c.self.inside.held.entries c.args.self.now c.args.commodity.now (option_copied c.args.key) c.args.units c.self.invariant.0 c.self.view_is)
    c.set.ensures.memory c.set.ensures.some

pub returns-clause-err : goal.returns-clause-err
returns-clause-err c =
    on_err-then c.set.result (stock_alike c.self.inside.held.entries c.set.new.held.entries c.args.self.now c.self.invariant.0 c.set.ensures.holdings c.self.view_is) c.set.ensures.err
