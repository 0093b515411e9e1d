-- The walk along the lots in the order is the choice.
use Rattle.std.proofs.Common.{rules, arith, map, ◌≤◌, ℕ, ℤ, Vec, Global, unsigned_abs}
use Rattle.std.proofs.lemmas.List.Sorted.{IsPermutation-map, answers_always}
use Rattle.std.proofs.lemmas.Result.{IfOk-weaker}
use Rattle.lot_cost.specs.declared.lot_key.LotKey.{LotKey}
use Rattle.lot_inv.specs.Inventory.{held_in}
use Rattle.lot_inv.specs.Lot.{AreNumberedBy, key_and_units}
use Rattle.lot_booking.specs.Front.{is_earlier}
use Rattle.lot_booking.proofs.ChoiceLemmas.{held_in-permuted}
use Rattle.lot_booking.proofs.FrontLemmas.{front_of_sorted}
use Rattle.lot_booking.proofs.TakeLemmas.{orders_lots, takes-walked}
use Rattle.lot_booking.proofs.choice.take_sorted.Goals as goal

pub returns-clause-taken : goal.returns-clause-taken
returns-clause-taken g c =
    let before = g.O.LotOrder.before in
    let weak = g.met.O.LotOrder.is_weak_order in
    let lots = c.args.lots.items in
    let listed = c.sort_unstable_by.new.self.items in
    let units = c.args.units in
    let moved = c.sort_unstable_by.ensures.permutation in
    let same = held_in-permuted (map key_and_units lots) (map key_and_units listed) (IsPermutation-map key_and_units lots listed moved) in
    let enough : unsigned_abs units ≤ held_in (map key_and_units listed) = omega (arith, same, c.requires.enough) in
    let sorted = c.sort_unstable_by.ensures.sorted (is_earlier before) (orders_lots before weak)
    (answers_always _ _ _ (λ f a r f' called. search rules)) in
    let front = front_of_sorted (is_earlier before) (orders_lots before weak) lots listed moved sorted in
    IfOk-weaker c.in_turn.result _ _
    (λ (legs : Vec (LotKey × ℤ) Global) walk (opening : LotKey → ℕ) (numbered : AreNumberedBy opening lots).
    takes-walked before weak opening (g.met.O.LotOrder.is_order opening) lots listed units legs.items c.requires.distinct numbered front enough walk)
    c.in_turn.ensures.legs
