-- The sums of two books, amount by amount.
use Rattle.std.proofs.Common.{◌≡◌, List, [], ◌∷◌, ◌++◌, append_assoc, append-nil, refl, sym, ap, ◌∙◌, subst}
use Rattle.std.specs.Prelude.{Bool, true, false, cond, Option, Some, ℤ, pos, ◌+ℤ◌}
use Rattle.std.specs.Cmp.{IsTotalOrder, Equal-is, tied_itself}
use Rattle.std.specs.List.Sorted.{IsStrictlySortedBy}
use Rattle.std.specs.Map.{keys_of, lookup}
use Rattle.std.specs.Option.{unwrap_or}
use Rattle.std.specs.Ordering.{is_eq}
use Rattle.std.proofs.lemmas.Cmp.{then_total, on_total, eq_by_cmp_equiv, nat_list_cmp_total}
use Rattle.std.proofs.lemmas.Map.Lookups.{CmpEqualImpliesEq, exact_bytes}
use Rattle.lot_base.specs.Text.{text_cmp}
use Rattle.lot_base.proofs.OrderLemmas.{equal_parts}
use Rattle.lot_book.proofs.SumLemmas.{sum_where-push}
use Rattle.lot_compare.specs.Sums.{AddsAmounts, Amount, Amounts, AreSums, plus, same_subject, sides_at, sides_in, subject_cmp, sum_at, with_more}
use Rattle.lot_compare.specs.declared.subject.Subject.{Subject}
use Rattle.lot_compare.specs.declared.sums.Side.{Side}
use Rattle.lot_compare.specs.declared.sums.Side.TheVariants.{New, Old}
use Rattle.lot_compare.specs.declared.sums.Sides.{Sides}

-- ---- the order of subjects

pub subjects_total : IsTotalOrder subject_cmp
subjects_total = then_total (on_total (λ (s : Subject). s.what) nat_list_cmp_total) (on_total (λ (s : Subject). s.commodity) nat_list_cmp_total)

exact_subjects : CmpEqualImpliesEq subject_cmp
exact_subjects s t e =
    let parts = equal_parts (text_cmp s.what t.what) (text_cmp s.commodity t.commodity) e in
    λ i. record { what = exact_bytes s.what t.what parts.0 i; commodity = exact_bytes s.commodity t.commodity parts.1 i }

pub one_subject : (s t : Subject) → same_subject s t ≡ true → s ≡ t
one_subject s t e = exact_subjects s t ((Equal-is (subject_cmp s t)).0 e)

pub same_subject-itself : (s : Subject) → same_subject s s ≡ true
same_subject-itself s = ap is_eq (tied_itself subjects_total s)

pub same_subject-turned : (s t : Subject) → same_subject s t ≡ same_subject t s
same_subject-turned s t = (eq_by_cmp_equiv subjects_total).symm s t

-- ---- one amount more

sum_more : (amounts : List Amount) (subject : Subject) (amount : ℤ) (s : Subject)
    → sum_at (amounts ++ (subject, amount) ∷ []) s ≡ cond (same_subject s subject) (sum_at amounts s +ℤ amount) (sum_at amounts s)
sum_more amounts subject amount s = sum_where-push (λ (a : Amount). same_subject s a.0) (λ (a : Amount). a.1) amounts (subject, amount)

with_new : (here : Bool) (new old amount : ℤ)
    → ◌≡◌ {A = Sides} (record { new = cond here (new +ℤ amount) new; old = old }) (cond here (record { new = new +ℤ amount; old = old }) (record { new = new; old = old }))
with_new true new old amount = refl
with_new false new old amount = refl

with_old : (here : Bool) (new old amount : ℤ)
    → ◌≡◌ {A = Sides} (record { new = new; old = cond here (old +ℤ amount) old }) (cond here (record { new = new; old = old +ℤ amount }) (record { new = new; old = old }))
with_old true new old amount = refl
with_old false new old amount = refl

sides_more : (side : Side) (amounts : Amounts) (subject : Subject) (amount : ℤ) (s : Subject)
    → sides_at (with_more side amounts ((subject, amount) ∷ [])) s
    ≡ cond (same_subject s subject) (plus side (sides_at amounts s) amount) (sides_at amounts s)
sides_more New amounts subject amount s =
    ap (λ (sum : ℤ). (record { new = sum; old = sum_at amounts.old s })) (sum_more amounts.new subject amount s)
    ∙ with_new (same_subject s subject) (sum_at amounts.new s) (sum_at amounts.old s) amount
sides_more Old amounts subject amount s =
    ap (λ (sum : ℤ). (record { new = sum_at amounts.new s; old = sum })) (sum_more amounts.old subject amount s)
    ∙ with_old (same_subject s subject) (sum_at amounts.new s) (sum_at amounts.old s) amount

pub sums_step : (side : Side) (amounts : Amounts) (sums new : List (Subject × Sides)) (subject : Subject) (amount : ℤ) (sides : Sides)
    → AreSums amounts sums
    → ((s : Subject) → lookup (λ other. is_eq (subject_cmp s other)) new
    ≡ cond (is_eq (subject_cmp subject s)) (Some sides) (lookup (λ other. is_eq (subject_cmp s other)) sums))
    → IsStrictlySortedBy subject_cmp (keys_of new)
    → sides ≡ plus side (sides_in sums subject) amount
    → AreSums (with_more side amounts ((subject, amount) ∷ [])) new
sums_step side amounts sums new subject amount sides are updated order is = record {
  in_order = order;
  each = λ s. ap (λ (found : Option Sides). unwrap_or found none) (updated s) ∙ by_name s (same_subject subject s) refl;
}
  where
    none : Sides
    none = record { new = pos 0; old = pos 0 }

    by_name : (s : Subject) (b : Bool) → same_subject subject s ≡ b
        → unwrap_or (cond b (Some sides) (lookup (same_subject s) sums)) none ≡ sides_at (with_more side amounts ((subject, amount) ∷ [])) s
    by_name s true e =
        let one : subject ≡ s = one_subject subject s e in
        is ∙ ap (λ (kept : Sides). plus side kept amount) (are.each subject) ∙ ap (λ (t : Subject). plus side (sides_at amounts t) amount) one
        ∙ sym (sides_more side amounts subject amount s
        ∙ ap (λ (b : Bool). cond b (plus side (sides_at amounts s) amount) (sides_at amounts s)) (same_subject-turned s subject ∙ e))
    by_name s false e =
        are.each s
        ∙ sym (sides_more side amounts subject amount s
        ∙ ap (λ (b : Bool). cond b (plus side (sides_at amounts s) amount) (sides_at amounts s)) (same_subject-turned s subject ∙ e))

-- ---- further amounts

with_none : (side : Side) (amounts : Amounts) → with_more side amounts [] ≡ amounts
with_none New amounts = ap (λ (all : List Amount). record { new = all; old = amounts.old }) (append-nil amounts.new)
with_none Old amounts = ap (λ (all : List Amount). record { new = amounts.new; old = all }) (append-nil amounts.old)

with_both : (side : Side) (amounts : Amounts) (one two : List Amount)
    → with_more side (with_more side amounts one) two ≡ with_more side amounts (one ++ two)
with_both New amounts one two = ap (λ (all : List Amount). record { new = all; old = amounts.old }) (append_assoc amounts.new one two)
with_both Old amounts one two = ap (λ (all : List Amount). record { new = amounts.new; old = all }) (append_assoc amounts.old one two)

pub adds_none : (side : Side) (sums : List (Subject × Sides)) → AddsAmounts side [] sums sums
adds_none side sums amounts are = subst (λ (all : Amounts). AreSums all sums) (sym (with_none side amounts)) are

pub adds_both : (side : Side) (one two : List Amount) (before mid after : List (Subject × Sides))
    → AddsAmounts side one before mid → AddsAmounts side two mid after → AddsAmounts side (one ++ two) before after
adds_both side one two before mid after first second amounts are =
    subst (λ (all : Amounts). AreSums all after) (with_both side amounts one two) (second (with_more side amounts one) (first amounts are))
