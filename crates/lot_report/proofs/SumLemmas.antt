-- Sums of amounts in each currency.
use Rattle.std.proofs.Common.{rules, ◌≡◌, ℕ, List, [], ◌∷◌, ◌++◌, refl, sym, ap, ◌∙◌}
use Rattle.std.specs.Prelude.{Bool, not, true, false, cond, ◌||◌, ◌&&◌, if◌then◌else◌, Option, None, Some, ℤ, pos, ◌+ℤ◌}
use Rattle.std.specs.List.Sorted.{IsStrictlySortedBy}
use Rattle.std.specs.Map.{keys_of, lookup}
use Rattle.std.specs.Ordering.{is_eq}
use Rattle.std.specs.Option.{unwrap_or}
use Rattle.lot_num.specs.Amount.{IsWide}
use Rattle.lot_base.specs.Text.{same_text, text_cmp}
use Rattle.lot_book.specs.Currencies.{sum_in}
use Rattle.lot_report.specs.Report.{AreSums, is_named, is_nil, is_wide, stay_wide}
use Rattle.std.proofs.Math.Bool.{or-false, or-true}
use Rattle.std.proofs.lemmas.List.Folds.{list_any-append}
use Rattle.lot_base.proofs.TextLemmas.{one_text, same_text-itself, same_text-ordered}
use Rattle.lot_book.proofs.SumLemmas.{sum_in-none, sum_in-push_here, sum_in-push_apart}

-- ---- Sums kept by the currency.

named_snoc : (amounts : List (List ℕ × ℤ)) (amount : List ℕ × ℤ) (name : List ℕ)
    → is_named name (amounts ++ amount ∷ []) ≡ (is_named name amounts || same_text name amount.0)
named_snoc amounts amount name =
    list_any-append (λ (c : List ℕ × ℤ). same_text name c.0) amounts (amount ∷ []) ∙ ap (λ b. is_named name amounts || b) (or-false (same_text name amount.0))

-- what is kept of a currency, or zero, is its sum
pub kept_is_sum : (amounts totals : List (List ℕ × ℤ)) (currency : List ℕ) (kept : Option ℤ) → AreSums amounts totals
    → kept ≡ lookup (λ name. is_eq (text_cmp currency name)) totals → unwrap_or kept (pos 0) ≡ sum_in amounts currency
kept_is_sum amounts totals currency kept sums is =
    ap (λ o. unwrap_or o (pos 0)) (is ∙ sums.each currency) ∙ by_name (is_named currency amounts) refl
  where
    by_name : (b : Bool) → is_named currency amounts ≡ b
        → unwrap_or (if b then Some (sum_in amounts currency) else None) (pos 0) ≡ sum_in amounts currency
    by_name true e = refl
    by_name false e = sym (sum_in-none currency amounts e)

-- one more amount, whose currency has its new sum
pub sums_step : (amounts totals new : List (List ℕ × ℤ)) (currency : List ℕ) (amount total : ℤ) → AreSums amounts totals
    → ((name : List ℕ) → lookup (λ other. is_eq (text_cmp name other)) new
    ≡ cond (is_eq (text_cmp currency name)) (Some total) (lookup (λ other. is_eq (text_cmp name other)) totals))
    → IsStrictlySortedBy text_cmp (keys_of new)
    → total ≡ sum_in amounts currency +ℤ amount
    → AreSums (amounts ++ (currency, amount) ∷ []) new
sums_step amounts totals new currency amount total sums updated order is = record {
  in_order = order;
  each = λ name. updated name ∙ ap (λ b. cond b (Some total) (lookup (λ other. is_eq (text_cmp name other)) totals)) (same_text-ordered currency name)
      ∙ by_name name (same_text name currency) refl;
}
  where
    by_name : (name : List ℕ) (b : Bool) → same_text name currency ≡ b
        → cond b (Some total) (lookup (λ other. is_eq (text_cmp name other)) totals)
        ≡ (if is_named name (amounts ++ (currency, amount) ∷ []) then Some (sum_in (amounts ++ (currency, amount) ∷ []) name) else None)
    by_name name true e =
        let one : name ≡ currency = one_text name currency e in
        ap Some (is ∙ ap (λ n. sum_in amounts n +ℤ amount) (sym one) ∙ sym (sum_in-push_here amounts (currency, amount) name e))
        ∙ sym (ap (λ b. if b then Some (sum_in (amounts ++ (currency, amount) ∷ []) name) else None)
        (named_snoc amounts (currency, amount) name ∙ ap (λ b. is_named name amounts || b) e ∙ or-true (is_named name amounts)))
    by_name name false e =
        sums.each name ∙ sym (ap (λ b. if b then Some (sum_in (amounts ++ (currency, amount) ∷ []) name) else None)
        (named_snoc amounts (currency, amount) name ∙ ap (λ b. is_named name amounts || b) e ∙ or-false (is_named name amounts))
        ∙ ap (λ n. if is_named name amounts then Some n else None) (sum_in-push_apart amounts (currency, amount) name e))

-- the same, under a copy of the currency
pub sums_under_copy : (amounts totals new : List (List ℕ × ℤ)) (currency copy : List ℕ) (amount total : ℤ) → AreSums amounts totals
    → ((name : List ℕ) → lookup (λ other. is_eq (text_cmp name other)) new
    ≡ cond (is_eq (text_cmp copy name)) (Some total) (lookup (λ other. is_eq (text_cmp name other)) totals))
    → IsStrictlySortedBy text_cmp (keys_of new)
    → copy ≡ currency → total ≡ sum_in amounts currency +ℤ amount
    → AreSums (amounts ++ (currency, amount) ∷ []) new
sums_under_copy amounts totals new currency copy amount total sums updated order same is =
    sums_step amounts totals new currency amount total sums
    (λ name. updated name ∙ ap (λ key. cond (is_eq (text_cmp key name)) (Some total) (lookup (λ other. is_eq (text_cmp name other)) totals)) same)
    order is

-- ---- Sums in range.

pub wide_is : (z : ℤ) → IsWide z → (is_wide z && true) ≡ true
wide_is z wide = search (rules)

pub not_wide_is : (z : ℤ) → (IsWide z → ⊥) → not (is_wide z && true) ≡ true
not_wide_is z wide = search (rules)

-- one more amount, with which the sum in its currency stays in range, or leaves it
stays_here : (amounts : List (List ℕ × ℤ)) (currency : List ℕ) (amount : ℤ)
    → stay_wide (amounts ++ (currency, amount) ∷ []) ((currency, amount) ∷ []) ≡ (is_wide (sum_in amounts currency +ℤ amount) && true)
stays_here amounts currency amount =
    ap (λ z. is_wide z && true) (sum_in-push_here amounts (currency, amount) currency (same_text-itself currency))

pub wide_stays : (amounts : List (List ℕ × ℤ)) (currency : List ℕ) (amount : ℤ) → IsWide (sum_in amounts currency +ℤ amount)
    → stay_wide (amounts ++ (currency, amount) ∷ []) ((currency, amount) ∷ []) ≡ true
wide_stays amounts currency amount wide = stays_here amounts currency amount ∙ wide_is (sum_in amounts currency +ℤ amount) wide

pub wide_leaves : (amounts : List (List ℕ × ℤ)) (currency : List ℕ) (amount : ℤ) → (IsWide (sum_in amounts currency +ℤ amount) → ⊥)
    → not (stay_wide (amounts ++ (currency, amount) ∷ []) ((currency, amount) ∷ [])) ≡ true
wide_leaves amounts currency amount wide = ap not (stays_here amounts currency amount) ∙ not_wide_is (sum_in amounts currency +ℤ amount) wide

-- ---- Rows.

pub snoc_is_some : {X : Type 0} (rows : List X) (row : X) → false ≡ is_nil (rows ++ row ∷ [])
snoc_is_some [] row = refl
snoc_is_some (first ∷ rows) row = refl
