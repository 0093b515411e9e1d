-- What is kept of sums, leg by leg.
use Rattle.std.specs.Prelude.{◌≡◌, ℤ, pos, ◌+ℤ◌, true, false, cond, List, [], ◌∷◌, ◌++◌, None, Some, Result, Ok, Err, OnErr, OnOk}
use Rattle.std.specs.BTreeMap.{BTreeMap, get}
use Rattle.std.specs.Map.{lookup}
use Rattle.std.specs.Option.{unwrap_or}
use Rattle.std.specs.Ordering.{int_eq}
use Rattle.std.proofs.Common.{refl, sym, ap, subst, ◌∙◌}
use Rattle.lot_inv.specs.Inventory.{non_zero}
use Rattle.lot_book.specs.Leg.{position_cmp, same_position}
use Rattle.lot_book.specs.declared.leg.Position.{Position}
use Rattle.lot_book.proofs.CaseLemmas.{by_bool}
use Rattle.lot_book.proofs.OrderLemmas.{one_position, same_position-turned}
use Rattle.lot_legs.specs.Legs.{is_by, leg_in}
use Rattle.lot_legs.specs.declared.leg.DatedLeg.{DatedLeg}
use Rattle.lot_position.specs.Held.{Keeps, NeedsMemory, NeedsRoom, held_at, kept_at}
use Rattle.lot_position.specs.declared.positions.Positions.{Positions}
use Rattle.lot_position.proofs.SumLemmas.{held_elsewhere, held_here, held_passed, kept_back, some_kept, zero_gone}

abbrev pub Sums : Type 0
Sums = BTreeMap Position ℤ

-- what follows from a success, or from a failure
pub after_ok : {T E P Q : Type 0} (r : Result T E) → (P → Q) → OnOk r P → OnOk r Q
after_ok (Ok done) follows so = follows so
after_ok (Err fault) follows so = tt

pub after_err : {T E P Q : Type 0} (r : Result T E) → (P → Q) → OnErr r P → OnErr r Q
after_err (Ok done) follows so = tt
after_err (Err fault) follows so = follows so

-- nothing is kept of no legs
pub keeps_nothing : (day : ℤ) (positions : Positions) → positions.day ≡ day → positions.sums.entries ≡ [] → Keeps day [] positions
keeps_nothing day positions on none = record {
  day_is = on;
  each = λ position. ap (lookup (same_position position)) none ∙ sym (zero_gone (pos 0) refl);
}

-- the same is kept where the entries are the same
pub keeps_same : (day : ℤ) (legs : List DatedLeg) (old new : Positions) → new.day ≡ old.day → new.sums.entries ≡ old.sums.entries
    → Keeps day legs old → Keeps day legs new
keeps_same day legs old new on same keeps = record {
  day_is = on ∙ keeps.day_is;
  each = λ position. ap (lookup (same_position position)) same ∙ keeps.each position;
}

-- a leg of a later day is passed over
pub keeps_passed : (day : ℤ) (legs : List DatedLeg) (leg : DatedLeg) (old : Positions) → is_by old.day leg.day ≡ false
    → Keeps day legs old → Keeps day (legs ++ leg ∷ []) old
keeps_passed day legs leg old later keeps = record {
  day_is = keeps.day_is;
  each = λ position.
      keeps.each position
      ∙ ap non_zero (sym (held_passed day legs leg position (ap (λ d. is_by d leg.day) (sym keeps.day_is) ∙ later)));
}

-- units are added to the sum of one position
abbrev pub Puts : Sums → Sums → Position → ℤ → Type 0
Puts old new position units = (other : Position) → get position_cmp new other
    ≡ cond (same_position position other) (non_zero (kept_at old position +ℤ units)) (get position_cmp old other)

-- another leg is added
module _ (day : ℤ) (legs : List DatedLeg) (leg : DatedLeg) (old new : Positions) where
  abbrev here : Position
  here = (leg_in leg).position

  abbrev more : List DatedLeg
  more = legs ++ leg ∷ []

  was : Keeps day legs old → kept_at old.sums here ≡ held_at day legs here
  was keeps = ap (λ o. unwrap_or o (pos 0)) (keeps.each here) ∙ kept_back (held_at day legs here)

  put_here : (position : Position) → is_by day leg.day ≡ true → Puts old.sums new.sums here leg.units → Keeps day legs old
      → same_position here position ≡ true → get position_cmp new.sums position ≡ non_zero (held_at day more position)
  put_here position by puts keeps e =
      puts position
      ∙ ap (λ b. cond b (non_zero (kept_at old.sums here +ℤ leg.units)) (get position_cmp old.sums position)) e
      ∙ ap (λ z. non_zero (z +ℤ leg.units)) (was keeps)
      ∙ ap non_zero (sym (held_here day legs leg by))
      ∙ ap (λ p. non_zero (held_at day more p)) (one_position here position e)

  put_elsewhere : (position : Position) → is_by day leg.day ≡ true → Puts old.sums new.sums here leg.units → Keeps day legs old
      → same_position here position ≡ false → get position_cmp new.sums position ≡ non_zero (held_at day more position)
  put_elsewhere position by puts keeps e =
      puts position
      ∙ ap (λ b. cond b (non_zero (kept_at old.sums here +ℤ leg.units)) (get position_cmp old.sums position)) e
      ∙ keeps.each position
      ∙ ap non_zero (sym (held_elsewhere day legs leg position by (same_position-turned position here ∙ e)))

  pub keeps_put : is_by old.day leg.day ≡ true → new.day ≡ old.day → Puts old.sums new.sums here leg.units → Keeps day legs old
      → Keeps day more new
  keeps_put in_time on puts keeps =
      let by : is_by day leg.day ≡ true = ap (λ d. is_by d leg.day) (sym keeps.day_is) ∙ in_time in
      record {
        day_is = on ∙ keeps.day_is;
        each = λ position.
            by_bool (same_position here position) (put_here position by puts keeps) (put_elsewhere position by puts keeps);
      }

  pub needs_held : is_by old.day leg.day ≡ true → NeedsRoom (kept_at old.sums here) leg.units → Keeps day legs old → NeedsMemory day legs leg
  needs_held in_time room keeps = (
    ap (λ d. is_by d leg.day) (sym keeps.day_is) ∙ in_time,
    subst (λ z. NeedsRoom z leg.units) (was keeps) room,
  )

-- ---- one sum

-- a sum that is zero is kept no more
pub puts_zero : (old new : Sums) (position : Position) (units after : ℤ) → after ≡ kept_at old position +ℤ units → int_eq after (pos 0) ≡ true
    → ((other : Position) → get position_cmp new other ≡ cond (same_position position other) None (get position_cmp old other))
    → Puts old new position units
puts_zero old new position units after is zero changes other =
    changes other
    ∙ ap (λ o. cond (same_position position other) o (get position_cmp old other)) (sym (zero_gone after zero) ∙ ap non_zero is)

-- another is kept anew
pub puts_some : (old new : Sums) (position : Position) (units after stored : ℤ) → after ≡ kept_at old position +ℤ units → int_eq after (pos 0) ≡ false
    → ((other : Position) → get position_cmp new other ≡ cond (same_position position other) (Some stored) (get position_cmp old other))
    → stored ≡ after → Puts old new position units
puts_some old new position units after stored is some changes same other =
    changes other
    ∙ ap (λ o. cond (same_position position other) o (get position_cmp old other)) (ap Some same ∙ sym (some_kept after some) ∙ ap non_zero is)
