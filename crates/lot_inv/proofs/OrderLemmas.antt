-- The order of positions is total, and only equal ones tie.
use Rattle.std.specs.Cmp.{IsTotalOrder}
use Rattle.std.specs.Option.{option_cmp}
use Rattle.std.proofs.lemmas.Cmp.{then_total, on_total, nat_list_cmp_total}
use Rattle.std.proofs.lemmas.Map.Lookups.{CmpEqualImpliesEq, exact_bytes}
use Rattle.lot_base.proofs.OrderLemmas.{equal_parts}
use Rattle.lot_base.specs.Text.{text_cmp}
use Rattle.lot_inv.specs.Inventory.{Position, position_cmp}
use Rattle.lot_cost.specs.LotKey.{lot_cmp}
use Rattle.lot_cost.proofs.OrderLemmas.{exact_lot_options, lot_options_total}

pub positions_total : IsTotalOrder position_cmp
positions_total = then_total (on_total (λ (p : Position). p.0) nat_list_cmp_total) (on_total (λ (p : Position). p.1) lot_options_total)

pub exact_positions : CmpEqualImpliesEq position_cmp
exact_positions p q e =
    let parts = equal_parts (text_cmp p.0 q.0) (option_cmp lot_cmp p.1 q.1) e in
    λ i. (exact_bytes p.0 q.0 parts.0 i, exact_lot_options p.1 q.1 parts.1 i)
