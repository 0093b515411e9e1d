-- What legs leave at a position, and in the lots of a commodity.
use Rattle.std.specs.Prelude.{◌≡◌, Bool, true, false, cond, List, [], ◌∷◌, Option, ℤ, pos, ◌+ℤ◌}
use Rattle.std.specs.FinMap.{empty, get-empty}
use Rattle.std.specs.Option.{unwrap_or}
use Rattle.std.proofs.Common.{refl, sym, ap, ◌∙◌}
use Rattle.std.proofs.Math.IntN.{+ℤ_assoc, +ℤ_idl, +ℤ_idr}
use Rattle.lot_inv.specs.Inventory.{Held, position_cmp, units_at}
use Rattle.lot_book.specs.declared.leg.Leg.{Leg}
use Rattle.lot_book.specs.declared.leg.Position.{Position}
use Rattle.lot_book.specs.Leg.{inventory_of, same_position, sum_at, with_leg, with_legs}
use Rattle.lot_book.proofs.LegLemmas.{with_leg-at}
use Rattle.lot_book.proofs.OrderLemmas.{same_position-turned}
use Rattle.lot_book.proofs.SumLemmas.{sum_where-cons}

-- ---- A position.

-- one more number before a sum, where it is of what is summed
before_sum : (b : Bool) (u n s : ℤ) → cond b (u +ℤ n) u +ℤ s ≡ u +ℤ cond b (n +ℤ s) s
before_sum true u n s = +ℤ_assoc u n s
before_sum false u n s = refl

holds_with_legs : (held : Held) (legs : List Leg) (p : Position)
    → units_at (with_legs p.account held legs) (p.commodity, p.lot) ≡ units_at held (p.commodity, p.lot) +ℤ sum_at legs p
holds_with_legs held [] p = sym (+ℤ_idr (units_at held (p.commodity, p.lot)))
holds_with_legs held (leg ∷ legs) p =
    let was = units_at held (p.commodity, p.lot) in
    holds_with_legs (with_leg p.account held leg) legs p
    ∙ ap (λ z. z +ℤ sum_at legs p) (with_leg-at held leg p ∙ ap (λ b. cond b (was +ℤ leg.units) was) (same_position-turned leg.position p))
    ∙ before_sum (same_position p leg.position) was leg.units (sum_at legs p)
    ∙ ap (λ z. was +ℤ z) (sym (sum_where-cons (λ (l : Leg). same_position p l.position) (λ (l : Leg). l.units) leg legs))

pub holds_sum : (legs : List Leg) (p : Position) → units_at (inventory_of legs p.account) (p.commodity, p.lot) ≡ sum_at legs p
holds_sum legs p =
    holds_with_legs empty legs p
    ∙ ap (λ (found : Option ℤ). unwrap_or found (pos 0) +ℤ sum_at legs p) (get-empty position_cmp (p.commodity, p.lot))
    ∙ +ℤ_idl (sum_at legs p)
