-- The walk along the first lots in the order is the choice.
use Rattle.std.proofs.Common.{rules, arith, map, ◌≤◌, ◌≡◌, ℕ, ℤ, List, Vec, Global, unsigned_abs}
use Rattle.std.proofs.lemmas.Result.{IfOk-weaker}
use Rattle.lot_cost.specs.declared.lot_key.LotKey.{LotKey}
use Rattle.lot_inv.specs.Inventory.{held_in}
use Rattle.lot_inv.specs.Lot.{AreNumberedBy, key_and_units}
use Rattle.lot_inv.specs.declared.lot.Lot.{Lot}
use Rattle.lot_booking.specs.Choice.{HaveDistinctKeys}
use Rattle.lot_booking.specs.Front.{ComeFirstOf, is_earlier}
use Rattle.lot_booking.proofs.FrontLemmas.{front_of_first}
use Rattle.lot_booking.proofs.TakeLemmas.{orders_lots, takes-walked}
use Rattle.lot_booking.proofs.front.take_enough.Goals as goal

pub returns : goal.returns
returns g c =
    let before = g.O.LotOrder.before in
    let weak = g.met.O.LotOrder.is_weak_order in
    let lots = c.args.lots.items in
    let front = c.in_ok-front.front.items in
    let units = c.args.units in
    let wanted : c.unsigned_abs.result ≡ unsigned_abs units = search rules in
    let enough : unsigned_abs units ≤ held_in (map key_and_units front) = omega (arith, wanted, c.in_ok-front.ensures.enough) in
    IfOk-weaker c.in_turn.result _ _
    (λ (legs : Vec (LotKey × ℤ) Global) walk (opening : LotKey → ℕ) (all : List Lot) (distinct : HaveDistinctKeys (map key_and_units all))
    (numbered : AreNumberedBy opening all) (first : ComeFirstOf (is_earlier before) all lots).
    takes-walked before weak opening (g.met.O.LotOrder.is_order opening) all front units legs.items distinct numbered
    (front_of_first (is_earlier before) (orders_lots before weak) all lots front c.in_ok-front.ensures.front first) enough walk)
    c.in_turn.ensures.legs
