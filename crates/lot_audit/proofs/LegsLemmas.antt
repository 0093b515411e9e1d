-- Rows and legs of a posting, one after another.
use Rattle.std.specs.Prelude.{◌≡◌, ◌==◌, ◌+◌, ◌<◌, ◌≤◌, ◌↔◌, ◌⊎◌, IsTrue, nat_eq, ℕ, zero, suc, Bool, true, false, cond, drop, get_or, length, All, List, [], ◌∷◌, map}
use Rattle.std.specs.List.{AllByRecursion}
use Rattle.std.proofs.Common.{refl, sym, ap, subst, ◌∙◌, arith, inl, inr}
use Rattle.std.proofs.Math.Numerals.{add-one}
use Rattle.std.proofs.Math.Seq.{drop-cons}
use Rattle.std.proofs.lemmas.Bool.{cases_lt}
use Rattle.std.proofs.lemmas.Bool.Decides.{Decides-eqb}
use Rattle.std.proofs.lemmas.List.Elements.{All-from_recursion, recursion_from_All}
use Rattle.sqlite_keyed.proofs.ListLemmas.{filter_none}
use Rattle.sqlite_rules.specs.Lists.{Has}
use Rattle.sqlite_rules.proofs.ListLemmas.{all_from, all_has, has_filtered, has_kept}
use Rattle.sqlite_rules.proofs.ProbeLemmas.{has_mapped}
use Rattle.lot_book.specs.OpeningNumber.{IsNumbered}
use Rattle.lot_book.specs.Refusals.{most_postings}
use Rattle.lot_book.specs.declared.leg.Leg.{Leg}
use Rattle.lot_rows.specs.Leg.{IsLegRow}
use Rattle.lot_rows.specs.declared.leg.LegRow.{LegRow}
use Rattle.lot_stored.specs.Rows.{leg_row}
use Rattle.lot_audit.specs.Legs.{AreAlike, legs_at, rows_of}

-- the element at a place, and none behind the last
element : {X : Type 0} (xs : List X) (i : ℕ) → i < length xs → (x : X) × (x ≡ get_or xs i x)
element [] i within = absurd (omega arith)
element (x ∷ xs) zero within = (x, refl)
element (x ∷ xs) (suc i) within = element xs i (omega arith)

drop_past : {X : Type 0} (xs : List X) (i : ℕ) → length xs ≤ i → drop i xs ≡ []
drop_past [] zero over = refl
drop_past [] (suc i) over = refl
drop_past (x ∷ xs) zero over = absurd (omega arith)
drop_past (x ∷ xs) (suc i) over = drop_past xs i (omega arith)

module _ (posting : ℕ) where
  same : (n : ℕ) → n ≡ posting → (n == posting) ≡ true
  same n is = (Decides-eqb n posting).1 is

  leg_in : (leg : Leg) (legs : List Leg) → leg.posting ≡ posting → legs_at posting (leg ∷ legs) ≡ leg ∷ legs_at posting legs
  leg_in leg legs is =
      ap (λ (b : Bool). cond b (leg ∷ legs_at posting legs) (legs_at posting legs)) (same leg.posting is)

  -- the leg at a place and those behind it
  split_at : (legs : List Leg) (at : ℕ) (leg : Leg) → at < length legs → leg ≡ get_or legs at leg → drop at legs ≡ leg ∷ drop (at + 1) legs
  split_at legs at leg within is =
      drop-cons legs at leg within ∙ (λ i. sym is i ∷ drop (sym (add-one at) i) legs)

  -- where no row is left, none of the legs is
  pub ends : (legs : List Leg) (at : ℕ) → AreAlike posting [] (drop at legs) ↔ (legs_at posting (drop at legs) ≡ [])
  ends legs at = (
    (λ alike. none_of (legs_at posting (drop at legs)) (sym alike)),
    (λ none. sym (ap (map leg_row) none)),
  )
    where
      none_of : (ls : List Leg) → map leg_row ls ≡ [] → ls ≡ []
      none_of [] is = refl
      none_of (leg ∷ ls) is = absurd cc

  -- no row is left: all are alike exactly where no leg is left either
  pub concludes : (rows : List LegRow) (legs : List Leg) (index at result : ℕ)
      → (AreAlike posting rows legs ↔ AreAlike posting (drop index rows) (drop at legs)) → length rows ≤ index
      → result ≤ length legs → legs_at posting (drop at legs) ≡ legs_at posting (drop result legs)
      → ((leg : Leg) → result < length legs → leg ≡ get_or legs result leg → leg.posting ≡ posting)
      → IsTrue (nat_eq result (length legs)) ↔ AreAlike posting rows legs
  concludes rows legs index at result turns over within skips found = (
    (λ is.
        turns.1
        (subst (λ (left : List LegRow). AreAlike posting left (drop at legs)) (sym none)
        ((ends legs at).1 (skips ∙ ap (legs_at posting) (drop_past legs result (all_passed is)))))),
    (λ alike.
        by (cases_lt result (length legs))
        ((ends legs at).0 (subst (λ (left : List LegRow). AreAlike posting left (drop at legs)) none (turns.0 alike)))),
  )
    where
      none : drop index rows ≡ []
      none = drop_past rows index over

      all_passed : nat_eq result (length legs) ≡ true → length legs ≤ result
      all_passed is = let one : result ≡ length legs = (Decides-eqb result (length legs)).0 is in omega arith

      by : (result < length legs) ⊎ (length legs ≤ result) → legs_at posting (drop at legs) ≡ []
          → nat_eq result (length legs) ≡ true
      by (inl less) empty =
          let it = element legs result less in
          let absent : it.0 ∷ legs_at posting (drop (result + 1) legs) ≡ [] =
          sym (leg_in it.0 (drop (result + 1) legs) (found it.0 less it.1))
          ∙ sym (ap (legs_at posting) (split_at legs result it.0 less it.1))
          ∙ sym skips ∙ empty in
          cc
      by (inr all) empty = (Decides-eqb result (length legs)).1 (omega arith)

-- ---- all postings

false_where : (b : Bool) → (b ≡ true → ⊥) → b ≡ false
false_where false never = refl
false_where true never = absurd (never refl)

module _ (rows : List LegRow) (legs : List Leg) (numbered : AllByRecursion IsNumbered legs) where
  -- outside the postings of a transaction there are neither rows nor legs
  none_beyond : (posting : ℕ) → AllByRecursion IsLegRow rows → AllByRecursion (λ (row : LegRow). row.posting ≤ most_postings) rows
      → (1 ≤ posting → posting ≤ most_postings → ⊥) → AreAlike posting rows legs
  none_beyond posting good within outside =
      filter_none (λ (row : LegRow). row.posting == posting) rows
      (all_from (λ (row : LegRow). (row.posting == posting) ≡ false) rows
      (λ row has. false_where (row.posting == posting) (λ is.
      let same = (Decides-eqb row.posting posting).0 is in
      outside (subst (λ (n : ℕ). 1 ≤ n) same (all_has IsLegRow rows row good has).posting.0)
      (subst (λ (n : ℕ). n ≤ most_postings) same (all_has (λ (r : LegRow). r.posting ≤ most_postings) rows row within has)))))
      ∙ sym (ap (map leg_row) (filter_none (λ (leg : Leg). leg.posting == posting) legs
      (all_from (λ (leg : Leg). (leg.posting == posting) ≡ false) legs
      (λ leg has. false_where (leg.posting == posting) (λ is.
      let same = (Decides-eqb leg.posting posting).0 is in
      outside (subst (λ (n : ℕ). 1 ≤ n) same (all_has IsNumbered legs leg numbered has).posting_from_one)
      (subst (λ (n : ℕ). n ≤ most_postings) same (all_has IsNumbered legs leg numbered has).posting_in_entry))))))

  pub all_alike : All IsLegRow rows → All (λ (row : LegRow). row.posting ≤ most_postings) rows
      → ((posting : ℕ) → posting < most_postings → AreAlike (posting + 1) rows legs) → (posting : ℕ) → AreAlike posting rows legs
  all_alike good within each posting = by posting (cases_lt most_postings posting)
    where
      beyond : (n : ℕ) → (1 ≤ n → n ≤ most_postings → ⊥) → AreAlike n rows legs
      beyond n outside =
          none_beyond n (recursion_from_All IsLegRow rows good)
          (recursion_from_All (λ (row : LegRow). row.posting ≤ most_postings) rows within) outside

      by : (n : ℕ) → (most_postings < n) ⊎ (n ≤ most_postings) → AreAlike n rows legs
      by n (inl past) = beyond n (λ from up_to. omega (arith, past, up_to))
      by zero (inr up_to) = beyond zero (λ from within_it. omega (arith, from))
      by (suc n) (inr up_to) = subst (λ (m : ℕ). AreAlike m rows legs) (omega arith) (each n (omega (arith, up_to)))

  pub within_where_alike : ((posting : ℕ) → AreAlike posting rows legs) → All (λ (row : LegRow). row.posting ≤ most_postings) rows
  within_where_alike alike =
      All-from_recursion (λ (row : LegRow). row.posting ≤ most_postings) rows
      (all_from (λ (row : LegRow). row.posting ≤ most_postings) rows
      (λ row has.
      let p = row.posting in
      let kept : Has (rows_of p rows) row =
      has_kept (λ (r : LegRow). r.posting == p) rows row has ((Decides-eqb p p).1 refl) in
      let found =
      has_mapped leg_row (legs_at p legs) row (subst (λ (all : List LegRow). Has all row) (alike p) kept) in
      let leg = has_filtered (λ (l : Leg). l.posting == p) legs found.0 found.1 in
      subst (λ (n : ℕ). n ≤ most_postings) ((Decides-eqb found.0.posting p).0 leg.1)
      (all_has IsNumbered legs found.0 numbered leg.0).posting_in_entry))
