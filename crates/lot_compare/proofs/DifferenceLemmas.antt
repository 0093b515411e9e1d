-- The sums in which two books differ are those of their amounts.
use Rattle.std.proofs.Common.{◌≡◌, List, [], ◌∷◌, refl, sym, ap, ◌∙◌, subst}
use Rattle.std.specs.Prelude.{Bool, true, false, not, cond, if◌then◌else◌, filter, Option, None, Some, pos}
use Rattle.std.specs.List.{AllByRecursion}
use Rattle.std.specs.List.Sorted.{IsStrictlySortedBy}
use Rattle.std.specs.Map.{keys_of, lookup}
use Rattle.std.specs.Option.{unwrap_or}
use Rattle.std.specs.Ordering.{is_eq}
use Rattle.std.specs.declared.cmp.Ordering.{Ordering}
use Rattle.std.specs.declared.cmp.Ordering.TheVariants.{Less}
use Rattle.lot_compare.specs.Sums.{Amounts, AreDifferences, AreSums, are_same, differing, same_subject, sides_at, subject_cmp}
use Rattle.lot_compare.specs.declared.subject.Subject.{Subject}
use Rattle.lot_compare.specs.declared.sums.Sides.{Sides}
use Rattle.lot_compare.proofs.SumLemmas.{one_subject}

module _ (keeps : Sides → Bool) where
  abbrev kept : List (Subject × Sides) → List (Subject × Sides)
  kept sums = filter (λ (sum : Subject × Sides). keeps sum.1) sums

  -- ---- in order

  all_kept : (P : Subject → Type 0) (sums : List (Subject × Sides)) → AllByRecursion P (keys_of sums) → AllByRecursion P (keys_of (kept sums))
  all_kept P [] all = tt
  all_kept P (sum ∷ sums) all = by (keeps sum.1) (all_kept P sums all.1)
    where
      by : (b : Bool) → AllByRecursion P (keys_of (kept sums)) → AllByRecursion P (keys_of (cond b (sum ∷ kept sums) (kept sums)))
      by true rest = (all.0, rest)
      by false rest = rest

  order_kept : (sums : List (Subject × Sides)) → IsStrictlySortedBy subject_cmp (keys_of sums) → IsStrictlySortedBy subject_cmp (keys_of (kept sums))
  unfolding IsStrictlySortedBy
  order_kept [] order = tt
  order_kept (sum ∷ sums) order = by (keeps sum.1) (order_kept sums order.1)
    where
      by : (b : Bool) → IsStrictlySortedBy subject_cmp (keys_of (kept sums)) → IsStrictlySortedBy subject_cmp (keys_of (cond b (sum ∷ kept sums) (kept sums)))
      by true rest = (all_kept (λ (s : Subject). subject_cmp sum.0 s ≡ Less) sums order.0, rest)
      by false rest = rest

  -- ---- what is found

  abbrev kept_if : Option Sides → Option Sides
  kept_if None = None
  kept_if (Some sides) = if keeps sides then Some sides else None

  below_all : (first : Subject) (sums : List (Subject × Sides)) → AllByRecursion (λ (s : Subject). subject_cmp first s ≡ Less) (keys_of sums)
      → lookup (same_subject first) sums ≡ None
  below_all first [] below = refl
  below_all first (sum ∷ sums) below =
      ap (λ (o : Ordering). cond (is_eq o) (Some sum.1) (lookup (same_subject first) sums)) below.0 ∙ below_all first sums below.1

  found_kept : (sums : List (Subject × Sides)) → IsStrictlySortedBy subject_cmp (keys_of sums) → (s : Subject)
      → lookup (same_subject s) (kept sums) ≡ kept_if (lookup (same_subject s) sums)
  unfolding IsStrictlySortedBy
  found_kept [] order s = refl
  found_kept (sum ∷ sums) order s = by (same_subject s sum.0) (keeps sum.1) refl refl (found_kept sums order.1 s)
    where
      by : (here keep : Bool) → same_subject s sum.0 ≡ here → keeps sum.1 ≡ keep
          → lookup (same_subject s) (kept sums) ≡ kept_if (lookup (same_subject s) sums)
          → lookup (same_subject s) (cond keep (sum ∷ kept sums) (kept sums)) ≡ kept_if (cond here (Some sum.1) (lookup (same_subject s) sums))
      by true true e k rest =
          ap (λ (b : Bool). cond b (Some sum.1) (lookup (same_subject s) (kept sums))) e
          ∙ sym (ap (λ (b : Bool). cond b (Some sum.1) None) k)
      by true false e k rest =
          subst (λ (t : Subject). lookup (same_subject t) (kept sums) ≡ None) (sym (one_subject s sum.0 e))
          (below_all sum.0 (kept sums) (all_kept (λ (t : Subject). subject_cmp sum.0 t ≡ Less) sums order.0))
          ∙ sym (ap (λ (b : Bool). cond b (Some sum.1) None) k)
      by false true e k rest =
          ap (λ (b : Bool). cond b (Some sum.1) (lookup (same_subject s) (kept sums))) e ∙ rest
      by false false e k rest = rest

-- ---- the differences

turned : (b : Bool) (sides : Sides) → cond (not b) (Some sides) None ≡ cond b None (Some sides)
turned true sides = refl
turned false sides = refl

differs_if : (found : Option Sides) (sides : Sides) → unwrap_or found (record { new = pos 0; old = pos 0 }) ≡ sides
    → kept_if (λ (s : Sides). not (are_same s)) found ≡ (if are_same sides then None else Some sides)
differs_if None sides is = ap (λ (s : Sides). cond (are_same s) None (Some s)) is
differs_if (Some found) sides is = turned (are_same found) found ∙ ap (λ (s : Sides). cond (are_same s) None (Some s)) is

pub differences_of : (amounts : Amounts) (sums : List (Subject × Sides)) → AreSums amounts sums → AreDifferences amounts (differing sums)
differences_of amounts sums are = record {
  in_order = order_kept (λ (s : Sides). not (are_same s)) sums are.in_order;
  each = λ s. found_kept (λ (t : Sides). not (are_same t)) sums are.in_order s ∙ differs_if (lookup (same_subject s) sums) (sides_at amounts s) (are.each s);
}
