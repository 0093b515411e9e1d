-- What rates leave is little.
use Rattle.std.proofs.Common.{◌≡◌, true, false, cond, ℕ, zero, suc, ◌*◌, ◌≤◌, List, [], ◌∷◌, length, Option, None, Some, ℤ, pos, negsuc, ◌-ℤ◌, ◌*ℤ◌, refl, ap, subst, sym, ◌∙◌, arith}
use Rattle.std.specs.Prelude.{IfSome, int_lt, neg_ℤ, unsigned_abs}
use Rattle.std.specs.Ordering.{int_eq}
use Rattle.std.proofs.lemmas.Int.{ints}
use Rattle.std.proofs.Math.IntN.{*ℤ_comm, pos-*ℤ-negsuc}
use Rattle.lot_num.specs.Amount.{IsUnits, one, per_unit, units_limit}
use Rattle.lot_cost.specs.declared.cost.Cost.{Cost}
use Rattle.lot_cost.specs.declared.cost.Cost.TheVariants.{Each, Whole}
use Rattle.lot_cost.specs.declared.cost_spec.CostSpec.{CostSpec}
use Rattle.lot_command.specs.declared.transaction.Amount.{Amount}
use Rattle.lot_command.specs.declared.transaction.Posting.{Posting}
use Rattle.lot_book.specs.Balance.{with_sign}
use Rattle.lot_base.specs.Text.{same_text}
use Rattle.lot_book.specs.Currencies.{sum_in}
use Rattle.lot_book.specs.Refusals.{most_postings}
use Rattle.lot_book.proofs.CaseLemmas.{by_bool}
use Rattle.lot_book.proofs.SumLemmas.{sum_in_apart, sum_in_here}
use Rattle.lot_completion.specs.Rates.{RatesAll, RatesAmount, RatesCost, RatesTotal, RoundsTotal, left_of}
use Rattle.lot_completion.specs.Small.{AreFew, AreSmall}
use Rattle.lot_completion.specs.declared.rates.RatedCost.{RatedCost}
use Rattle.lot_completion.specs.declared.rates.RatedPosting.{RatedPosting}
use Rattle.lot_rounding.specs.Nearest.{IsNearestRate}

abbrev pub IsLittle : List ℕ × ℤ → Type 0
IsLittle l = unsigned_abs l.1 ≤ units_limit

-- a total with the sign of units that aren't zero
signed_above : (n : ℕ) (total : ℤ) → with_sign (pos (suc n)) total ≡ total *ℤ pos one
signed_above n total =
    let some : int_eq (pos (suc n)) (pos 0) ≡ false = grind (arith, ints) in
    let above : int_lt (pos (suc n)) (pos 0) ≡ false = grind (arith, ints) in
    ap (λ b. cond b (pos 0) (cond (int_lt (pos (suc n)) (pos 0)) (neg_ℤ (total *ℤ pos one)) (total *ℤ pos one))) some
    ∙ ap (λ b. cond b (neg_ℤ (total *ℤ pos one)) (total *ℤ pos one)) above

signed_below : (n : ℕ) (total : ℤ) → with_sign (negsuc n) total ≡ neg_ℤ (total *ℤ pos one)
signed_below n total =
    let some : int_eq (negsuc n) (pos 0) ≡ false = grind (arith, ints) in
    let below : int_lt (negsuc n) (pos 0) ≡ true = grind (arith, ints) in
    ap (λ b. cond b (pos 0) (cond (int_lt (negsuc n) (pos 0)) (neg_ℤ (total *ℤ pos one)) (total *ℤ pos one))) some
    ∙ ap (λ b. cond b (neg_ℤ (total *ℤ pos one)) (total *ℤ pos one)) below

-- a nearest rate leaves at most half a step for each unit
left_small : (units total : ℤ) (rate : ℕ) → IsUnits units → IsNearestRate units total rate
    → unsigned_abs (with_sign units total -ℤ units *ℤ pos rate) ≤ units_limit
left_small (pos zero) total rate within nearest = absurd (nearest.some_units refl)
left_small (pos (suc n)) total rate within nearest =
    let near : 2 * unsigned_abs (total *ℤ pos one -ℤ pos rate *ℤ pos (suc n)) ≤ suc n = nearest.nearest.near in
    rw (signed_above n total) (omega (arith, ints, near, within, *ℤ_comm (pos rate) (pos (suc n))))
left_small (negsuc n) total rate within nearest =
    let near : 2 * unsigned_abs (total *ℤ pos one -ℤ pos rate *ℤ pos (suc n)) ≤ suc n = nearest.nearest.near in
    rw (signed_below n total) (omega (arith, ints, near, within, *ℤ_comm (pos rate) (negsuc n), pos-*ℤ-negsuc rate n, mul_of rate (suc n)))
  where
    mul_of : (m k : ℕ) → pos m *ℤ pos k ≡ pos (m * k)
    mul_of m k = refl

total_small : (units total : ℤ) (spec : CostSpec) (rated : RatedCost) → RoundsTotal units total spec rated → IfSome rated.left IsLittle
total_small units total spec rated is =
    subst (λ (l : Option (List ℕ × ℤ)). IfSome l IsLittle) (sym is.left) (left_small units total is.rate is.in_range is.nearest)

cost_small : (units : ℤ) (written : Option Cost) (rated : RatedCost) → RatesCost units written rated → IfSome rated.left IsLittle
cost_small units None rated is = subst (λ (l : Option (List ℕ × ℤ)). IfSome l IsLittle) (sym is.1) tt
cost_small units (Some (Each spec)) rated is = subst (λ (l : Option (List ℕ × ℤ)). IfSome l IsLittle) (sym is.1) tt
cost_small units (Some (Whole whole)) rated is = by (per_unit units whole.0) is
  where
    by : (found : Option ℕ) → RatesTotal units whole found rated → IfSome rated.left IsLittle
    by None is = total_small units whole.0 whole.1 rated is
    by (Some rate) is = subst (λ (l : Option (List ℕ × ℤ)). IfSome l IsLittle) (sym is.1) tt

amount_small : (written amount : Option Amount) (left : Option (List ℕ × ℤ)) → RatesAmount written amount left → IfSome left IsLittle
amount_small None amount left is = subst (λ (l : Option (List ℕ × ℤ)). IfSome l IsLittle) (sym is.1) tt
amount_small (Some written) amount left is =
    subst (λ (l : Option (List ℕ × ℤ)). IfSome l IsLittle) (sym is.3) (cost_small written.units written.cost is.0 is.1)

-- one more, if there is one
few_more : (left : Option (List ℕ × ℤ)) (rated : RatedPosting) (rs : List RatedPosting) (n : ℕ) → left ≡ rated.left → IfSome left IsLittle
    → AreSmall (left_of rs) → length (left_of rs) ≤ n → AreSmall (left_of (rated ∷ rs)) × (length (left_of (rated ∷ rs)) ≤ suc n)
few_more None rated rs n is little small count = rw (sym is) (small, omega arith)
few_more (Some l) rated rs n is little small count = rw (sym is) ((little, small), omega arith)

few_of : (written : List Posting) (rated : List RatedPosting) → RatesAll written rated
    → AreSmall (left_of rated) × (length (left_of rated) ≤ length written)
few_of [] [] rates = (tt, omega arith)
few_of [] (r ∷ rs) rates = absurd rates
few_of (p ∷ ps) [] rates = absurd rates
few_of (p ∷ ps) (r ∷ rs) rates =
    let others = few_of ps rs rates.1 in
    few_more r.left r rs (length ps) refl (amount_small p.amount r.posting.amount r.left rates.0.amount) others.0 others.1

pub few_left : (written : List Posting) (rated : List RatedPosting) → RatesAll written rated → length written ≤ most_postings
    → AreFew (left_of rated)
few_left written rated rates few =
    let both = few_of written rated rates in record { count = omega (arith, both.1, few); small = both.0 }

-- the part of an amount in a currency is as small as the amount
pub part_small : (l : List ℕ × ℤ) (currency : List ℕ) → IsLittle l → unsigned_abs (sum_in (l ∷ []) currency) ≤ units_limit
part_small l currency little =
    by_bool (same_text currency l.0)
    (λ e. let all = sum_in_here l [] currency e in omega (arith, ints, all, little))
    (λ e. let none = sum_in_apart l [] currency e in omega (arith, ints, none))
