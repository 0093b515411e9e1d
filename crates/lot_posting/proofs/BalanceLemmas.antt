-- Weights and residuals.
use Rattle.std.proofs.Common.{◌≡◌, ℕ, zero, suc, ◌*◌, ◌/◌, ◌<◌, ◌≤◌, ℤ, pos, negsuc, ◌*ℤ◌, neg_ℤ, Bool, true, false, not, List, map, Option, Some, refl, ap, ◌∙◌, sym, arith}
use Rattle.std.specs.Prelude.{unsigned_abs}
use Rattle.std.proofs.lemmas.Bool.{false_from_ne_true}
use Rattle.std.proofs.lemmas.Int.{unsigned_abs-mul}
use Rattle.lot_num.specs.Amount.{one, rate_limit, units_limit, IsUnits}
use Rattle.lot_book.specs.Balance.{fits_units, left_over, opposite}
use Rattle.lot_book.proofs.WeightLemmas.{divided, times_negative}
use Rattle.lot_book.specs.declared.standing.Standing.{Standing}
use Rattle.lot_book.specs.Refusals.{bars, first_currency}

-- ---- Units at scale 16.

size_of_negative : (n : ℕ) → unsigned_abs (neg_ℤ (pos n)) ≡ n
size_of_negative zero = refl
size_of_negative (suc n) = refl

-- units that weigh less than the limit of units weighs are below it, so at no rate do they weigh more than at the limit of
-- both
pub weight-small : (u weight units : ℤ) → units ≡ u *ℤ pos one → unsigned_abs units < units_limit * one
    → unsigned_abs weight ≤ unsigned_abs u * rate_limit → unsigned_abs weight ≤ units_limit * rate_limit
weight-small u weight units same below small =
    let size : unsigned_abs units ≡ unsigned_abs u * one = ap unsigned_abs same ∙ unsigned_abs-mul u (pos one) in
    omega arith

-- the units that a weight is
weight_from_units : (z : ℤ) → fits_units z ≡ true → (u : ℤ) × IsUnits u × (z ≡ u *ℤ pos one)
weight_from_units (pos a) h = (pos (a / one), (divided a h).1, ap pos (sym (divided a h).0))
weight_from_units (negsuc a) h = (
  neg_ℤ (pos (suc a / one)),
  rw (size_of_negative (suc a / one)) (divided (suc a) h).1,
  sym (times_negative (suc a / one) ∙ ap (λ n. neg_ℤ (pos n)) (divided (suc a) h).0),
)

pub misfit_from_weight : (z : ℤ) → ((u : ℤ) → IsUnits u → z ≡ u *ℤ pos one → ⊥) → fits_units z ≡ false
misfit_from_weight z none =
    false_from_ne_true (fits_units z) (λ e. let found = weight_from_units z e in none found.0 found.1 found.2)

-- ---- Fills.

abbrev pub fills_of : List (List ℕ × ℤ) → List (List ℕ × ℤ)
fills_of rs = map (λ (r : List ℕ × ℤ). (r.0, opposite r.1)) (left_over rs)

abbrev pub misfits_units : List ℕ × ℤ → Bool
misfits_units r = not (fits_units r.1)

-- the first currency whose residual isn't zero and that the account doesn't allow
abbrev pub first_left_barred : Standing → List (List ℕ × ℤ) → Option (List ℕ)
first_left_barred standing rs = first_currency (λ (r : List ℕ × ℤ). bars (Some standing) r.0) (left_over rs)
