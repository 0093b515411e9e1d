-- What the legs of a posting do to two inventories that have the same at some positions.
use Rattle.std.specs.Prelude.{◌≡◌, ℕ, true, false, cond, nat_lt, List, [], ◌∷◌, None, Some, ℤ, pos, ◌+ℤ◌, unsigned_abs}
use Rattle.std.specs.FinMap as finite
use Rattle.std.specs.List.{AllByRecursion}
use Rattle.std.specs.Option.{unwrap_or}
use Rattle.std.specs.Ordering.{eq_by_cmp}
use Rattle.std.proofs.Common.{refl, sym, ap, subst, ◌∙◌}
use Rattle.lot_base.specs.Text.{same_text}
use Rattle.lot_num.specs.Amount.{units_limit}
use Rattle.lot_inv.specs.Inventory.{Held, Position, added, lots_of, non_zero, position_cmp, units_at}
use Rattle.lot_cost.proofs.OrderLemmas.{is_equal}
use Rattle.lot_inv.proofs.LotLemmas.{get-with_units, same_lots}
use Rattle.lot_inv.proofs.OrderLemmas.{exact_positions}
use Rattle.lot_book.specs.declared.leg.Leg.{Leg}
use Rattle.lot_book.specs.Agree.{HaveSameOf, HaveSamePlain}
use Rattle.lot_book.specs.Leg.{leave_range, with_leg, with_legs}

-- inventories with the same at each position of a kind
abbrev pub HaveSame : (Position → Type 0) → Held → Held → Type 0
HaveSame Is a b = (at : Position) → Is at → finite.get a at ≡ finite.get b at

abbrev pub IsOf : List ℕ → Position → Type 0
IsOf commodity at = at.0 ≡ commodity

abbrev pub IsPlain : Position → Type 0
IsPlain at = at.1 ≡ None

pub same_of : (commodity : List ℕ) (a b : Held) → HaveSameOf commodity a b → HaveSame (IsOf commodity) a b
same_of commodity a b same at is =
    ap (λ c. finite.get a (c, at.1)) is ∙ same at.1 ∙ ap (λ c. finite.get b (c, at.1)) (sym is)

pub same_plain : (a b : Held) → HaveSamePlain a b → HaveSame IsPlain a b
same_plain a b same at is =
    ap (λ lot. finite.get a (at.0, lot)) is ∙ same at.0 ∙ ap (λ lot. finite.get b (at.0, lot)) (sym is)

module _ (Is : Position → Type 0) where
  abbrev in_kind : Leg → Type 0
  in_kind leg = Is (leg.position.commodity, leg.position.lot)

  same_added : (a b : Held) (at : Position) (units : ℤ) → HaveSame Is a b → HaveSame Is (added a at units) (added b at units)
  same_added a b at units same other is =
      get-with_units a at (units_at a at +ℤ units) other
      ∙ elim (eq_by_cmp position_cmp other at) as (λ t. eq_by_cmp position_cmp other at ≡ t
      → cond t (non_zero (units_at a at +ℤ units)) (finite.get a other)
      ≡ cond t (non_zero (units_at b at +ℤ units)) (finite.get b other)) [
        | true ↦ λ e.
            let here : Is at = subst Is (exact_positions other at (is_equal (position_cmp other at) e)) is in
            ap (λ found. non_zero (unwrap_or found (pos 0) +ℤ units)) (same at here)
        | false ↦ λ e. same other is
      ] refl
      ∙ sym (get-with_units b at (units_at b at +ℤ units) other)

  pub same_with_leg : (account : List ℕ) (a b : Held) (leg : Leg) → HaveSame Is a b
      → HaveSame Is (with_leg account a leg) (with_leg account b leg)
  same_with_leg account a b leg same =
      let at : Position = (leg.position.commodity, leg.position.lot) in
      elim (same_text account leg.position.account) as (λ t. HaveSame Is (cond t (added a at leg.units) a)
      (cond t (added b at leg.units) b)) [
        | true ↦ same_added a b at leg.units same
        | false ↦ same
      ]

  pub same_with_legs : (account : List ℕ) (a b : Held) (legs : List Leg) → HaveSame Is a b
      → HaveSame Is (with_legs account a legs) (with_legs account b legs)
  same_with_legs account a b [] same = same
  same_with_legs account a b (leg ∷ legs) same =
      same_with_legs account (with_leg account a leg) (with_leg account b leg) legs (same_with_leg account a b leg same)

  -- legs at such positions leave the range in both, or in neither
  pub same_range : (a b : Held) (legs : List Leg) → HaveSame Is a b → AllByRecursion in_kind legs
      → leave_range a legs ≡ leave_range b legs
  same_range a b [] same are = refl
  same_range a b (leg ∷ legs) same are =
      let at : Position = (leg.position.commodity, leg.position.lot) in
      let rest = same_range (added a at leg.units) (added b at leg.units) legs (same_added a b at leg.units same) are.1 in
      ap (λ found. cond (nat_lt (unsigned_abs (unwrap_or found (pos 0) +ℤ leg.units)) units_limit)
      (leave_range (added a at leg.units) legs) true) (same at are.0)
      ∙ ap (λ leaves. cond (nat_lt (unsigned_abs (units_at b at +ℤ leg.units)) units_limit) leaves true) rest

-- inventories with the same of a commodity have the same lots of it
pub same_lots_of : (commodity : List ℕ) (a b : Held) → HaveSame (IsOf commodity) a b → lots_of a commodity ≡ lots_of b commodity
same_lots_of commodity a b same = same_lots a b commodity (λ key. same (commodity, Some key) refl)
