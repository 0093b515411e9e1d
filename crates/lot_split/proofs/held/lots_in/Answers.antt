-- The sort's test is the order of openings, and braces without parts fit each lot.
use Rattle.std.proofs.Common.{◌≡◌, ◌∙◌, rules, List, map, ap}
use Rattle.std.specs.Ordering.{is_lt}
use Rattle.std.proofs.lemmas.Fn.{always_returns_same}
use Rattle.std.proofs.lemmas.Result.{IfOk-weaker}
use Rattle.lot_inv.specs.Inventory.{matching, opening_at}
use Rattle.lot_inv.specs.Lot.{key_and_units as listed}
use Rattle.lot_split.specs.Held.{key_and_units}
use Rattle.lot_split.specs.Split.{each_lot}
use Rattle.lot_split.specs.declared.lot.HeldLot.{HeldLot}
use Rattle.lot_split.proofs.HeldLemmas.{are_held, lot_order, lots_rank}
use Rattle.lot_split.proofs.held.lots_in.Goals as goal

pub returns : goal.returns
returns c =
    let held = c.args.inventory.now.held in
    let commodity = c.args.commodity.now in
    let found = c.in_ok-lots.lots.items in
    let sorted = c.sort_unstable_by.new.self.items in
    let all : map listed found ≡ matching held commodity each_lot = c.in_ok-lots.ensures.all ∙ ap (matching held commodity) c.each_lot.ensures in
    let up = c.sort_unstable_by.ensures.sorted (λ a b. is_lt (lot_order a b)) lots_rank
    (always_returns_same _ _ _ (λ a r f' called. (search rules, search rules))) in
    IfOk-weaker c.held.result _ _
    (λ (lots : List HeldLot) (same : map key_and_units lots ≡ map listed sorted).
    are_held held commodity (opening_at c.args.inventory.now commodity) found sorted lots all c.in_ok-lots.ensures.numbers
    c.in_ok-lots.ensures.distinct c.sort_unstable_by.ensures.permutation up same)
    c.held.ensures
