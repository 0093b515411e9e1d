use Rattle.std.proofs.Common.{◌≡◌, ap, ◌∙◌, ◌++◌}
use Rattle.lot_inv.specs.Holding.{rows, units_in}
use Rattle.lot_inv.specs.Inventory.{as_entries}
use Rattle.lot_inv.proofs.InventoryLemmas.{rows_seen}
use Rattle.lot_inv.proofs.RowLemmas.{some_left}
use Rattle.lot_inv.proofs.SetLemmas.{on_err}
use Rattle.lot_inv.proofs.inventory.Inventory.rows.Goals as goal

pub loop-commodity-init : goal.loop-commodity-init
loop-commodity-init c =
    let all : c.into_iter-commodity-iterator.result ≡ c.self.inside.held.entries = c.into_iter-commodity-iterator.ensures.into_iter_gives.0 in
    ap (λ listed. as_entries listed ++ units_in (rows c.into_iter-commodity-iterator.result)) c.new-rows.ensures.items
    ∙ ap (λ entries. units_in (rows entries)) all
    ∙ rows_seen c.self.inside.held.entries c.args.self.now c.self.invariant.0 c.self.view_is

pub returns-in_err-list-clause-memory : goal.returns-in_err-list-clause-memory
returns-in_err-list-clause-memory c =
    on_err c.from_residual.result (some_left _ _ _ _ _ c.loop-commodity.invariant c.in-Some.ensures.steps c.in_err-list.ensures.memory)
