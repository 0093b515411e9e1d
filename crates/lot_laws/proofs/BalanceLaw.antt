-- That an accepted transaction balances: in every currency the weights of what is booked, and of the fill, sum to zero.
use Rattle.std.specs.Prelude.{◌≡◌, ℕ, suc, ◌||◌, Bool, true, false, cond, not, List, [], ◌∷◌, ◌++◌, map, find, Option, None, Some, ℤ, pos, ◌+ℤ◌, ◌*ℤ◌, neg_ℤ}
use Rattle.std.specs.List.{AllByRecursion, list_any}
use Rattle.std.specs.Option.{option_map}
use Rattle.std.proofs.Common.{refl, sym, ap, ◌∙◌}
use Rattle.std.specs.Cmp.{signed_Decides}
use Rattle.std.proofs.lemmas.Bool.{not-false}
use Rattle.std.proofs.Math.IntN.{+ℤ_idl, +ℤ_idr, +ℤ_invr, neg_ℤ-+ℤ}
use Rattle.lot_num.specs.Amount.{one}
use Rattle.lot_base.specs.Text.{same_text}
use Rattle.lot_command.specs.declared.transaction.Transaction.{Transaction}
use Rattle.lot_book.specs.declared.refusal.Refusal.{Refusal}
use Rattle.lot_book.specs.declared.refusal.Refusal.TheVariants.{InexactFill, NotBalanced}
use Rattle.lot_book.specs.Currencies.{sum_in, first_appearances}
use Rattle.lot_book.specs.Balance.{elided_postings, fill_from, fill_of, fits_units, is_zero, left_over, opposite, residuals, weight_of, weights_in}
use Rattle.lot_book.specs.Booking.{Booked}
use Rattle.lot_book.specs.Facts.{Facts}
use Rattle.lot_book.specs.Refusals.{inexact_fill, not_balanced}
use Rattle.lot_book.specs.Step.{fill_legs, first_of, last_conditions}
use Rattle.lot_book.proofs.CaseLemmas.{by_bool}
use Rattle.lot_base.proofs.TextLemmas.{one_text}
use Rattle.lot_book.proofs.CurrencyLemmas.{without, beside}
use Rattle.lot_book.proofs.SumLemmas.{sum_in-cons, sum_in_here, sum_in_apart, sum_in-append, sum_in-unnamed}
use Rattle.lot_book.proofs.WeightLemmas.{opposite_exact}

-- ---- Residuals.

beside_without_it : (f : List ℕ → ℤ) (name : List ℕ) (names : List (List ℕ)) → sum_in (beside f (without name names)) name ≡ pos 0
beside_without_it f name [] = refl
beside_without_it f name (other ∷ names) = by_bool (same_text name other)
    (λ e. ap (λ b. sum_in (beside f (cond (not b) (other ∷ without name names) (without name names))) name) e
    ∙ beside_without_it f name names)
    (λ e. ap (λ b. sum_in (beside f (cond (not b) (other ∷ without name names) (without name names))) name) e
    ∙ sum_in_apart (other, f other) (beside f (without name names)) name e ∙ beside_without_it f name names)

beside_without : (f : List ℕ → ℤ) (gone name : List ℕ) → same_text name gone ≡ false → (names : List (List ℕ))
    → sum_in (beside f (without gone names)) name ≡ sum_in (beside f names) name
beside_without f gone name apart [] = refl
beside_without f gone name apart (other ∷ names) =
    let rest = beside_without f gone name apart names in
    by_bool (same_text gone other)
    (λ e. ap (λ b. sum_in (beside f (cond (not b) (other ∷ without gone names) (without gone names))) name) e ∙ rest
    ∙ sym (sum_in_apart (other, f other) (beside f names) name (ap (same_text name) (sym (one_text gone other e)) ∙ apart)))
    (λ e. ap (λ b. sum_in (beside f (cond (not b) (other ∷ without gone names) (without gone names))) name) e
    ∙ sum_in-cons (other, f other) (beside f (without gone names)) name
    ∙ ap (λ z. cond (same_text name other) (f other +ℤ z) z) rest
    ∙ sym (sum_in-cons (other, f other) (beside f names) name))

-- the names of a list, each once, have the numbers that the names have
beside_first : (f : List ℕ → ℤ) (name : List ℕ) (names : List (List ℕ))
    → sum_in (beside f (first_appearances names)) name ≡ cond (list_any (same_text name) names) (f name) (pos 0)
beside_first f name [] = refl
beside_first f name (first ∷ names) = by_bool (same_text name first)
    (λ e. sum_in_here (first, f first) (beside f (without first (first_appearances names))) name e
    ∙ ap (λ z. f first +ℤ z) (ap (λ n. sum_in (beside f (without first (first_appearances names))) n) (one_text name first e)
    ∙ beside_without_it f first (first_appearances names))
    ∙ +ℤ_idr (f first)
    ∙ ap f (sym (one_text name first e))
    ∙ ap (λ b. cond (b || list_any (same_text name) names) (f name) (pos 0)) (sym e))
    (λ e. sum_in_apart (first, f first) (beside f (without first (first_appearances names))) name e
    ∙ beside_without f first name e (first_appearances names)
    ∙ beside_first f name names
    ∙ ap (λ b. cond (b || list_any (same_text name) names) (f name) (pos 0)) (sym e))

-- the sum in a name that no pair has is zero
nothing_in : (name : List ℕ) (ps : List (List ℕ × ℤ))
    → cond (list_any (same_text name) (map (λ (p : List ℕ × ℤ). p.0) ps)) (sum_in ps name) (pos 0) ≡ sum_in ps name
nothing_in name ps =
    let any = list_any (same_text name) (map (λ (p : List ℕ × ℤ). p.0) ps) in
    by_bool any
    (λ e. ap (λ b. cond b (sum_in ps name) (pos 0)) e)
    (λ e. ap (λ b. cond b (sum_in ps name) (pos 0)) e ∙ sym (sum_in-unnamed name ps e))

-- what the residuals have in a currency is what the weights have there
pub residuals_sum : (weights : List (List ℕ × ℤ)) (currency : List ℕ)
    → sum_in (residuals weights) currency ≡ sum_in weights currency
residuals_sum weights currency =
    beside_first (sum_in weights) currency (map (λ (w : List ℕ × ℤ). w.0) weights) ∙ nothing_in currency weights

-- ---- The fill.

AreUnits : List (List ℕ × ℤ) → Type 0
AreUnits rs = AllByRecursion (λ (r : List ℕ × ℤ). fits_units r.1 ≡ true) rs

-- what takes up residuals weighs their opposite
fill_weighs : (entry posting : ℕ) (account : List ℕ) (place : ℕ) (rs : List (List ℕ × ℤ)) (name : List ℕ) → AreUnits rs
    → sum_in (map weight_of (fill_from entry posting account place rs)) name ≡ neg_ℤ (sum_in rs name)
unfolding AreUnits
fill_weighs entry posting account place [] name h = refl
fill_weighs entry posting account place (r ∷ rs) name h =
    let rest = fill_weighs entry posting account (suc place) rs name h.1 in
    let more = map weight_of (fill_from entry posting account (suc place) rs) in
    by_bool (same_text name r.0)
    (λ e. sum_in_here (r.0, opposite r.1 *ℤ pos one) more name e
    ∙ ap (λ z. z +ℤ sum_in more name) (opposite_exact r.1 h.0) ∙ ap (λ z. neg_ℤ r.1 +ℤ z) rest
    ∙ sym (neg_ℤ-+ℤ r.1 (sum_in rs name)) ∙ ap neg_ℤ (sym (sum_in_here r rs name e)))
    (λ e. sum_in_apart (r.0, opposite r.1 *ℤ pos one) more name e ∙ rest ∙ ap neg_ℤ (sym (sum_in_apart r rs name e)))

units_left_over : (rs : List (List ℕ × ℤ)) → AreUnits rs → AreUnits (left_over rs)
unfolding AreUnits
units_left_over [] h = tt
units_left_over (r ∷ rs) h = elim (not (is_zero r.1)) as (λ b. AreUnits (cond b (r ∷ left_over rs) (left_over rs))) [
  | true ↦ (h.0, units_left_over rs h.1)
  | false ↦ units_left_over rs h.1
]

-- a residual of zero adds nothing
left_over_sum : (rs : List (List ℕ × ℤ)) (name : List ℕ) → sum_in (left_over rs) name ≡ sum_in rs name
left_over_sum [] name = refl
left_over_sum (r ∷ rs) name =
    let rest = left_over_sum rs name in
    by_bool (is_zero r.1)
    (λ e. ap (λ b. sum_in (cond (not b) (r ∷ left_over rs) (left_over rs)) name) e ∙ rest
    ∙ by_bool (same_text name r.0)
    (λ s. sym (+ℤ_idl (sum_in rs name)) ∙ ap (λ z. z +ℤ sum_in rs name) (sym ((signed_Decides r.1 (pos 0)).0 e))
    ∙ sym (sum_in_here r rs name s))
    (λ s. sym (sum_in_apart r rs name s)))
    (λ e. ap (λ b. sum_in (cond (not b) (r ∷ left_over rs) (left_over rs)) name) e
    ∙ sum_in-cons r (left_over rs) name ∙ ap (λ z. cond (same_text name r.0) (r.1 +ℤ z) z) rest ∙ sym (sum_in-cons r rs name))

-- ---- What the conditions say that don't hold.

option_map_none : {A B : Type 0} (f : A → B) (o : Option A) → option_map f o ≡ None → o ≡ None
option_map_none f None e = refl
option_map_none f (Some x) e = cc

not_found : {X : Type 0} (fails : X → Bool) (xs : List X) → find fails xs ≡ None → AllByRecursion (λ x. fails x ≡ false) xs
not_found fails [] e = tt
not_found fails (x ∷ xs) e = by_bool (fails x)
    (λ t. absurd (cc (sym e ∙ ap (λ b. cond b (Some x) (find fails xs)) t)))
    (λ f. (f, not_found fails xs (sym (ap (λ b. cond b (Some x) (find fails xs)) f) ∙ e)))

are_units : (rs : List (List ℕ × ℤ)) → AllByRecursion (λ (r : List ℕ × ℤ). not (fits_units r.1) ≡ false) rs → AreUnits rs
unfolding AreUnits
are_units [] h = tt
are_units (r ∷ rs) h = (not-false (fits_units r.1) h.0, are_units rs h.1)

zero_sum : (rs : List (List ℕ × ℤ)) (name : List ℕ) → AllByRecursion (λ (r : List ℕ × ℤ). not (is_zero r.1) ≡ false) rs
    → sum_in rs name ≡ pos 0
zero_sum [] name h = refl
zero_sum (r ∷ rs) name h = by_bool (same_text name r.0)
    (λ e. sum_in_here r rs name e ∙ ap (λ z. z +ℤ sum_in rs name) ((signed_Decides r.1 (pos 0)).0 (not-false (is_zero r.1) h.0))
    ∙ +ℤ_idl (sum_in rs name) ∙ zero_sum rs name h.1)
    (λ e. sum_in_apart r rs name e ∙ zero_sum rs name h.1)

-- ---- A transaction balances.

-- whichever postings are elided, the weights and those of the fill balance
pub filled_balances : (entry : ℕ) (elided : List (ℕ × List ℕ)) (weights : List (List ℕ × ℤ)) (currency : List ℕ)
    → inexact_fill elided (residuals weights) ≡ None → not_balanced elided (residuals weights) ≡ None
    → sum_in (weights ++ map weight_of (fill_of entry elided (residuals weights))) currency ≡ pos 0
filled_balances entry [] weights currency exact balanced =
    sum_in-append weights [] currency ∙ +ℤ_idr (sum_in weights currency)
    ∙ sym (residuals_sum weights currency)
    ∙ zero_sum (residuals weights) currency
    (not_found _ (residuals weights) (option_map_none _ _ (option_map_none NotBalanced _ balanced)))
filled_balances entry (place ∷ more) weights currency exact balanced =
    let rs = residuals weights in
    let units = are_units rs (not_found _ rs (option_map_none _ _ (option_map_none InexactFill _ exact))) in
    sum_in-append weights (map weight_of (fill_of entry (place ∷ more) rs)) currency
    ∙ ap (λ z. sum_in weights currency +ℤ z)
    (fill_weighs entry place.0 place.1 0 (left_over rs) currency (units_left_over rs units)
    ∙ ap neg_ℤ (left_over_sum rs currency ∙ residuals_sum weights currency))
    ∙ +ℤ_invr (sum_in weights currency)

-- what is booked of a transaction, and the fill
pub transaction_balances : (facts : Facts) (t : Transaction) (booked : List Booked) (currency : List ℕ)
    → inexact_fill (elided_postings 1 t.postings) (residuals (weights_in booked)) ≡ None
    → not_balanced (elided_postings 1 t.postings) (residuals (weights_in booked)) ≡ None
    → sum_in (weights_in booked ++ map weight_of (fill_legs facts t booked)) currency ≡ pos 0
transaction_balances facts t booked currency =
    filled_balances (suc facts.entries) (elided_postings 1 t.postings) (weights_in booked) currency

none_of : (conditions : List (Option Refusal)) → first_of conditions ≡ None
    → AllByRecursion (λ (condition : Option Refusal). condition ≡ None) conditions
none_of [] none = tt
none_of (None ∷ conditions) none = (refl, none_of conditions none)
none_of (Some refusal ∷ conditions) none = absurd cc

-- a transaction that no condition refuses, once it is booked
pub unrefused_balances : (facts : Facts) (t : Transaction) (booked : List Booked) (currency : List ℕ)
    → first_of (last_conditions facts t booked) ≡ None
    → sum_in (weights_in booked ++ map weight_of (fill_legs facts t booked)) currency ≡ pos 0
unrefused_balances facts t booked currency none =
    let each = none_of (last_conditions facts t booked) none in
    transaction_balances facts t booked currency each.0 each.1.1.1.0
