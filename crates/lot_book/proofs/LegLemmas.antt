-- What legs leave in an account, leg by leg.
use Rattle.std.proofs.Common.{◌≡◌, ◌≢◌, ℕ, true, false, inl, inr, cond, nat_lt, ◌<◌, arith, List, [], ◌∷◌, ◌++◌, Option, Some, refl, sym, ap, ◌∙◌, ℤ, pos, ◌+ℤ◌}
use Rattle.std.specs.Map.{lookup}
use Rattle.std.specs.Option.{unwrap_or}
use Rattle.std.proofs.lemmas.Bool.{cases_Bool, cases_lt}
use Rattle.std.proofs.lemmas.Bool.Decides.{nat_tests}
use Rattle.lot_num.specs.Amount.{IsUnits}
use Rattle.lot_base.specs.Text.{same_text}
use Rattle.lot_base.proofs.TextLemmas.{one_text, same_text-itself}
use Rattle.lot_inv.specs.Inventory.{Held, added, units_at}
use Rattle.lot_cost.specs.declared.lot_key.LotKey.{LotKey}
use Rattle.lot_inv.proofs.LotLemmas.{units_at-set, get-with_units_apart}
use Rattle.lot_book.specs.declared.leg.Position.{Position}
use Rattle.lot_book.specs.declared.leg.Leg.{Leg}
use Rattle.lot_book.specs.Facts.{Facts}
use Rattle.lot_book.specs.Leg.{leave_range, same_position, with_leg, with_legs}
use Rattle.lot_book.specs.Change.{ListsSums, units_after, units_before}
use Rattle.lot_book.proofs.OrderLemmas.{one_position, same_position-itself}

pub with_legs-append : (account : List ℕ) (held : Held) (legs more : List Leg) → with_legs account held (legs ++ more) ≡ with_legs account (with_legs account held legs) more
with_legs-append account held [] more = refl
with_legs-append account held (leg ∷ legs) more = with_legs-append account (with_leg account held leg) legs more

-- a leg of the account adds its units where it stands
pub with_leg-here : (account : List ℕ) (held : Held) (leg : Leg) → leg.position.account ≡ account
    → with_leg account held leg ≡ added held (leg.position.commodity, leg.position.lot) leg.units
with_leg-here account held leg is =
    ap (λ b. cond b (added held (leg.position.commodity, leg.position.lot) leg.units) held) (ap (same_text account) is ∙ same_text-itself account)

with_leg-apart : (account : List ℕ) (held : Held) (leg : Leg) → same_text account leg.position.account ≡ false → with_leg account held leg ≡ held
with_leg-apart account held leg apart = ap (λ b. cond b (added held (leg.position.commodity, leg.position.lot) leg.units) held) apart

units_at-added : (held : Held) (at : List ℕ × Option LotKey) (units : ℤ) → units_at (added held at units) at ≡ units_at held at +ℤ units
units_at-added held at units = units_at-set held at (units_at held at +ℤ units)

units_at-elsewhere : (held : Held) (at other : List ℕ × Option LotKey) (units : ℤ) → other ≢ at → units_at (added held at units) other ≡ units_at held other
units_at-elsewhere held at other units apart = ap (λ (o : Option ℤ). unwrap_or o (pos 0)) (get-with_units_apart held at (units_at held at +ℤ units) other apart)

-- what a position holds with one more leg
pub with_leg-at : (held : Held) (leg : Leg) (p : Position)
    → units_at (with_leg p.account held leg) (p.commodity, p.lot) ≡ cond (same_position leg.position p) (units_at held (p.commodity, p.lot) +ℤ leg.units) (units_at held (p.commodity, p.lot))
with_leg-at held leg p =
    elim (cases_Bool (same_position leg.position p)) [
      | inl here ↦
          let is : leg.position ≡ p = one_position leg.position p here in
          rw here (
          ap (λ (h : Held). units_at h (p.commodity, p.lot)) (with_leg-here p.account held leg (ap (λ (q : Position). q.account) is))
          ∙ ap (λ (q : Position). units_at (added held (q.commodity, q.lot) leg.units) (p.commodity, p.lot)) is
          ∙ units_at-added held (p.commodity, p.lot) leg.units)
      | inr apart ↦ rw apart (elim (cases_Bool (same_text p.account leg.position.account)) [
        | inl own ↦
            let one : p.account ≡ leg.position.account = one_text p.account leg.position.account own in
            let at : List ℕ × Option LotKey = (p.commodity, p.lot) in
            let there : List ℕ × Option LotKey = (leg.position.commodity, leg.position.lot) in
            let other : at ≢ there = λ (e : at ≡ there).
            let is : leg.position ≡ p = λ i. record { account = sym one i; commodity = (sym e i).0; lot = (sym e i).1 } in
            let same : same_position leg.position p ≡ true = ap (same_position leg.position) (sym is) ∙ same_position-itself leg.position in cc in
            ap (λ (h : Held). units_at h (p.commodity, p.lot)) (with_leg-here p.account held leg (sym one))
            ∙ units_at-elsewhere held (leg.position.commodity, leg.position.lot) (p.commodity, p.lot) leg.units other
        | inr foreign ↦ ap (λ (h : Held). units_at h (p.commodity, p.lot)) (with_leg-apart p.account held leg foreign)
      ])
    ]

-- what a position holds after one more leg behind the others
pub units_after-push : (facts : Facts) (legs : List Leg) (leg : Leg) (p : Position)
    → units_after facts (legs ++ leg ∷ []) p ≡ cond (same_position leg.position p) (units_after facts legs p +ℤ leg.units) (units_after facts legs p)
units_after-push facts legs leg p =
    ap (λ (h : Held). units_at h (p.commodity, p.lot)) (with_legs-append p.account (facts.held p.account) legs (leg ∷ []))
    ∙ with_leg-at (with_legs p.account (facts.held p.account) legs) leg p

-- what is listed stays right where the leg's position is listed anew
pub ListsSums-push : (facts : Facts) (legs : List Leg) (leg : Leg) (listed new : List (Position × ℤ)) (after : ℤ) → ListsSums facts legs listed
    → after ≡ units_after facts legs leg.position +ℤ leg.units
    → ((q : Position) → lookup (same_position q) new ≡ cond (same_position leg.position q) (Some after) (lookup (same_position q) listed))
    → ListsSums facts (legs ++ leg ∷ []) new
ListsSums-push facts legs leg listed new after lists is updates q =
    ap (λ o. unwrap_or o (units_before facts q)) (updates q) ∙ by
  where
    by : unwrap_or (cond (same_position leg.position q) (Some after) (lookup (same_position q) listed)) (units_before facts q) ≡ units_after facts (legs ++ leg ∷ []) q
    by = elim (cases_Bool (same_position leg.position q)) [
      | inl here ↦
          rw here (is ∙ ap (λ p. units_after facts legs p +ℤ leg.units) (one_position leg.position q here)
          ∙ sym (units_after-push facts legs leg q ∙ ap (λ b. cond b (units_after facts legs q +ℤ leg.units) (units_after facts legs q)) here))
      | inr apart ↦
          rw apart (lists q ∙ sym (units_after-push facts legs leg q ∙ ap (λ b. cond b (units_after facts legs q +ℤ leg.units) (units_after facts legs q)) apart))
    ]

-- ---- the range of units

below : {a b : ℕ} → a < b → nat_lt a b ≡ true
below less = grind (arith, nat_tests)

not_below : {a b : ℕ} → (a < b → ⊥) → nat_lt a b ≡ false
not_below {a} {b} never = elim (cases_lt a b) [
  | inl less ↦ absurd (never less)
  | inr more ↦ grind (arith, nat_tests)
]

-- one more leg of the account behind the others
pub with_legs-push : (account : List ℕ) (held : Held) (legs : List Leg) (leg : Leg) → leg.position.account ≡ account
    → with_legs account held (legs ++ leg ∷ []) ≡ added (with_legs account held legs) (leg.position.commodity, leg.position.lot) leg.units
with_legs-push account held legs leg is = with_legs-append account held legs (leg ∷ []) ∙ with_leg-here account (with_legs account held legs) leg is

pub leave_range-passes : (held : Held) (leg : Leg) (legs : List Leg) → IsUnits (units_at held (leg.position.commodity, leg.position.lot) +ℤ leg.units)
    → leave_range held (leg ∷ legs) ≡ leave_range (added held (leg.position.commodity, leg.position.lot) leg.units) legs
leave_range-passes held leg legs within =
    ap (λ b. cond b (leave_range (added held (leg.position.commodity, leg.position.lot) leg.units) legs) true) (below within)

pub leave_range-stops : (held : Held) (leg : Leg) (legs : List Leg) → (IsUnits (units_at held (leg.position.commodity, leg.position.lot) +ℤ leg.units) → ⊥)
    → leave_range held (leg ∷ legs) ≡ true
leave_range-stops held leg legs out =
    ap (λ b. cond b (leave_range (added held (leg.position.commodity, leg.position.lot) leg.units) legs) true) (not_below out)
