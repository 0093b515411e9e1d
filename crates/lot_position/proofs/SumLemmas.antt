-- Sums at the end of a day, with one more leg.
use Rattle.std.specs.Prelude.{◌≡◌, ◌≤ℤ◌, ◌<ℤ◌, ℤ, pos, ◌+ℤ◌, true, false, cond, List, [], ◌∷◌, ◌++◌, map, None, Some}
use Rattle.std.specs.Option.{unwrap_or}
use Rattle.std.specs.Ordering.{int_eq}
use Rattle.std.proofs.Common.{arith, sym, ap, ◌∙◌}
use Rattle.std.proofs.lemmas.Int.{ints}
use Rattle.std.proofs.lemmas.List.{append-nil, map-append}
use Rattle.std.proofs.lemmas.List.Elements.{filter-append}
use Rattle.lot_inv.specs.Inventory.{non_zero}
use Rattle.lot_book.specs.Leg.{same_position, sum_at}
use Rattle.lot_book.specs.declared.leg.Leg.{Leg}
use Rattle.lot_book.specs.declared.leg.Position.{Position}
use Rattle.lot_book.proofs.CaseLemmas.{by_bool}
use Rattle.lot_book.proofs.OrderLemmas.{same_position-itself}
use Rattle.lot_laws.proofs.OpeningLemmas.{sum_at-push, sum_at-push_apart, zero_is}
use Rattle.lot_legs.specs.Legs.{is_by, leg_in, legs_by}
use Rattle.lot_legs.specs.declared.leg.DatedLeg.{DatedLeg}
use Rattle.lot_position.specs.Held.{held_at}

-- ---- what is kept of a sum

pub zero_gone : (z : ℤ) → int_eq z (pos 0) ≡ true → non_zero z ≡ None
zero_gone z e = ap (λ b. cond b None (Some z)) e

pub some_kept : (z : ℤ) → int_eq z (pos 0) ≡ false → non_zero z ≡ Some z
some_kept z e = ap (λ b. cond b None (Some z)) e

pub kept_back : (z : ℤ) → unwrap_or (non_zero z) (pos 0) ≡ z
kept_back z =
    by_bool (int_eq z (pos 0))
    (λ e. ap (λ o. unwrap_or o (pos 0)) (zero_gone z e) ∙ sym (zero_is z e))
    (λ e. ap (λ o. unwrap_or o (pos 0)) (some_kept z e))

-- ---- days

pub by_day : (last day : ℤ) → day ≤ℤ last → is_by last day ≡ true
by_day last day up = grind (arith, ints)

pub behind_day : (last day : ℤ) → last <ℤ day → is_by last day ≡ false
behind_day last day less = grind (arith, ints)

-- ---- one more leg

legs_push : (day : ℤ) (legs : List DatedLeg) (leg : DatedLeg)
    → map leg_in (legs_by day (legs ++ leg ∷ [])) ≡ map leg_in (legs_by day legs) ++ map leg_in (legs_by day (leg ∷ []))
legs_push day legs leg =
    ap (map leg_in) (filter-append (λ (l : DatedLeg). is_by day l.day) legs (leg ∷ []))
    ∙ map-append leg_in (legs_by day legs) (legs_by day (leg ∷ []))

-- the legs up to a day, with one that is of it or before
with_leg : (day : ℤ) (legs : List DatedLeg) (leg : DatedLeg) → is_by day leg.day ≡ true
    → map leg_in (legs_by day (legs ++ leg ∷ [])) ≡ map leg_in (legs_by day legs) ++ leg_in leg ∷ []
with_leg day legs leg e =
    legs_push day legs leg
    ∙ ap (λ b. map leg_in (legs_by day legs) ++ map leg_in (cond b (leg ∷ []) [])) e

-- one of a later day adds nothing
pub held_passed : (day : ℤ) (legs : List DatedLeg) (leg : DatedLeg) (position : Position) → is_by day leg.day ≡ false
    → held_at day (legs ++ leg ∷ []) position ≡ held_at day legs position
held_passed day legs leg position e =
    ap (λ (ls : List Leg). sum_at ls position)
    (legs_push day legs leg
    ∙ ap (λ b. map leg_in (legs_by day legs) ++ map leg_in (cond b (leg ∷ []) [])) e
    ∙ append-nil (map leg_in (legs_by day legs)))

pub held_here : (day : ℤ) (legs : List DatedLeg) (leg : DatedLeg) → is_by day leg.day ≡ true
    → held_at day (legs ++ leg ∷ []) (leg_in leg).position ≡ held_at day legs (leg_in leg).position +ℤ leg.units
held_here day legs leg e =
    let here = (leg_in leg).position in
    let sum = held_at day legs here in
    ap (λ (ls : List Leg). sum_at ls here) (with_leg day legs leg e)
    ∙ sum_at-push (map leg_in (legs_by day legs)) (leg_in leg) here
    ∙ ap (λ b. cond b (sum +ℤ leg.units) sum) (same_position-itself here)

pub held_elsewhere : (day : ℤ) (legs : List DatedLeg) (leg : DatedLeg) (position : Position) → is_by day leg.day ≡ true
    → same_position position (leg_in leg).position ≡ false
    → held_at day (legs ++ leg ∷ []) position ≡ held_at day legs position
held_elsewhere day legs leg position e apart =
    ap (λ (ls : List Leg). sum_at ls position) (with_leg day legs leg e)
    ∙ sum_at-push_apart (map leg_in (legs_by day legs)) (leg_in leg) position apart
