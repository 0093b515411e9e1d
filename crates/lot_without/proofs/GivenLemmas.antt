-- What is printed is cut where it was joined, and what was cut is printed as it stood.
use Rattle.std.proofs.Common.{◌≡◌, ℕ, zero, suc, ◌+◌, ◌<◌, ◌≤◌, ◌^◌, Bool, true, false, cond, eqb, inl, inr, List, [], ◌∷◌, ◌++◌, get_or, drop, take, length, Option, Some, None, refl, ap, ◌∙◌, sym, subst, arith}
use Rattle.std.specs.Prelude.{◌&&◌, ◌==◌, ◌⊎◌, IsTrue, decimal, nat_le, nat_lt, not, option_and_then}
use Rattle.std.specs.List.{after_first, before_first, list_all, position_or_len}
use Rattle.std.specs.Str.Parse.{AllDigits}
use Rattle.std.proofs.lemmas.Bool.{and_from, and_parts, eqb-true, false≢true, leb-true, le-leb, not-true, not-false, not_from_false}
use Rattle.std.proofs.lemmas.Bool.Decides.{nat_tests}
use Rattle.std.proofs.lemmas.Fmt.{decimal_is_IsNumeral}
use Rattle.std.proofs.lemmas.List.Sums.{prefix_len-le-length, prefix_len_stops, split_at_first}
use Rattle.std.proofs.lemmas.Option.{none-some}
use Rattle.std.proofs.lemmas.Str.Parse.{digit_from_value}
use Rattle.std.proofs.Math.Seq.{take-append_seam}
use Rattle.lot_base.specs.Name.{is_label}
use Rattle.lot_without.specs.Given.{CanBeGiven, by_of}
use Rattle.lot_without.specs.Value.{is_blank, is_dash, is_no_blank, is_source, named, named_batch, named_entries, named_key, named_number, range_of, under}
use Rattle.lot_without.specs.Without.{value_text}
use Rattle.lot_without.specs.declared.value.By.{By}
use Rattle.lot_without.specs.declared.value.By.TheVariants as by
use Rattle.lot_without.specs.declared.without.Without.{Without}
use Rattle.lot_without.specs.declared.without.Without.TheVariants.{Key, Batch, Entries}
use Rattle.lot_without.proofs.ValueLemmas.{no_key, no_range, number_found, number_stood}

-- ---- A byte between two texts.

module _ (byte : ℕ) where
  abbrev is_it : ℕ → Bool
  is_it b = b == byte

  abbrev has_none : List ℕ → Bool
  has_none text = list_all (λ b. not (b == byte)) text

  place : (front rest : List ℕ) → IsTrue (has_none front) → position_or_len is_it (front ++ byte ∷ rest) ≡ length front
  place [] rest none = let e : eqb byte byte ≡ true = grind (arith, nat_tests) in rw e refl
  place (b ∷ front) rest none =
      let parts = and_parts _ _ none in
      let e : eqb b byte ≡ false = not-true _ parts.0 in
      let more = place front rest parts.1 in
      rw (e, more) (omega arith)

  behind : (front rest : List ℕ) → drop (suc (length front)) (front ++ byte ∷ rest) ≡ rest
  behind [] rest = refl
  behind (b ∷ front) rest = behind front rest

  pub before_joined : (front rest : List ℕ) → IsTrue (has_none front) → before_first is_it (front ++ byte ∷ rest) ≡ front
  before_joined front rest none =
      ap (λ n. take n (front ++ byte ∷ rest)) (place front rest none) ∙ take-append_seam front (byte ∷ rest)

  pub after_joined : (front rest : List ℕ) → IsTrue (has_none front) → after_first is_it (front ++ byte ∷ rest) ≡ rest
  after_joined front rest none =
      let n : position_or_len is_it (front ++ byte ∷ rest) + 1 ≡ suc (length front) = omega (arith, place front rest none) in
      ap (λ n. drop n (front ++ byte ∷ rest)) n ∙ behind front rest

  -- what stands before the first such byte has none
  pub none_before : (text : List ℕ) → IsTrue (has_none (before_first is_it text))
  none_before [] = refl
  none_before (b ∷ text) = go (eqb b byte) refl (none_before text)
    where
      go : (e : Bool) → eqb b byte ≡ e → IsTrue (has_none (before_first is_it text)) → IsTrue (has_none (before_first is_it (b ∷ text)))
      go true e more = rw e refl
      go false e more =
          let next : 1 + position_or_len is_it text ≡ suc (position_or_len is_it text) = omega arith in
          rw e (rw next (and_from _ _ (not_from_false _ e) more))

  -- the byte stands there, or nowhere
  pub stands : (text : List ℕ) → (position_or_len is_it text ≡ length text) ⊎ (text ≡ before_first is_it text ++ byte ∷ after_first is_it text)
  stands text = go (nat_lt (position_or_len is_it text) (length text)) refl
    where
      go : (b : Bool) → nat_lt (position_or_len is_it text) (length text) ≡ b
          → (position_or_len is_it text ≡ length text) ⊎ (text ≡ before_first is_it text ++ byte ∷ after_first is_it text)
      go true lt =
          let inside : position_or_len is_it text < length text = grind (arith, nat_tests, lt) in
          let stops = prefix_len_stops (λ b. not (is_it b)) text 0 inside in
          let at : get_or text (position_or_len is_it text) 0 ≡ byte = eqb-true _ byte (not-false _ stops) in
          inr (split_at_first is_it text 0 inside ∙ ap (λ b. before_first is_it text ++ b ∷ after_first is_it text) at)
      go false ge =
          let most = prefix_len-le-length (λ b. not (is_it b)) text in
          inl (grind (arith, nat_tests, ge, most))

-- ---- A test.

by_test : {A : Type 0} (test : Bool) (v w : A) → cond test (Some v) None ≡ Some w → (test ≡ true) × (v ≡ w)
by_test true v w is = (refl, cc)
by_test false v w is = absurd (none-some w is)

then_stood : {A B : Type 0} (f : A → Option B) (o : Option A) (b : B) → option_and_then f o ≡ Some b
    → (a : A) × (o ≡ Some a) × (f a ≡ Some b)
then_stood f None b is = absurd (none-some b is)
then_stood f (Some a) b is = (a, refl, is)

abbrev IsSaid : By → List ℕ → Without → Type 0
IsSaid by text without = CanBeGiven without × (by_of without ≡ by) × (value_text without ≡ text)

-- ---- A key.

key_said : (text : List ℕ) (without : Without) → named_key text ≡ Some without → IsSaid by.Key text without
key_said text without is =
    let both = by_test _ (under (before_first is_blank text) (after_first is_blank text)) without is in
    let labels = and_parts _ _ both.0 in
    let given : IsSaid by.Key text (under (before_first is_blank text) (after_first is_blank text)) = (
      (and_from _ _ labels.0 (none_before 32 text), labels.1),
      refl,
      elim (stands 32 text) [ inl none ↦ absurd (none-some without (sym (no_key text none) ∙ is)) | inr whole ↦ sym whole ],
    ) in
    subst (IsSaid by.Key text) both.1 given

key_named : (source name : List ℕ) → IsTrue (is_source source) → IsTrue (is_label name) → named_key (source ++ 32 ∷ name) ≡ Some (under source name)
key_named source name is_one label =
    let parts = and_parts (is_label source) (list_all is_no_blank source) is_one in
    let first : is_label source ≡ true = parts.0 in
    let one = before_joined 32 source name parts.1 in
    let two = after_joined 32 source name parts.1 in
    rw (one, two) (rw (first, label) refl)

-- ---- A range.

range_said : (first last : ℕ) (without : Without) → last < 2 ^ 32 → range_of first last ≡ Some without
    → CanBeGiven without × (by_of without ≡ by.Entries) × (value_text without ≡ decimal first ++ 45 ∷ decimal last)
range_said first last without small is =
    let both = by_test _ (Entries first last) without is in
    let tests = and_parts _ _ both.0 in
    let given : CanBeGiven (Entries first last) × (by_of (Entries first last) ≡ by.Entries)
    × (value_text (Entries first last) ≡ decimal first ++ 45 ∷ decimal last) =
    ((leb-true 1 first tests.0, leb-true first last tests.1, small), refl, refl) in
    subst (λ (w : Without). CanBeGiven w × (by_of w ≡ by.Entries) × (value_text w ≡ decimal first ++ 45 ∷ decimal last)) both.1 given

entries_said : (text : List ℕ) (without : Without) → named_entries text ≡ Some without → IsSaid by.Entries text without
entries_said text without is =
    let (first, at, more) = then_stood _ (named_number (before_first is_dash text)) without is in
    let (last, at1, range) = then_stood _ (named_number (after_first is_dash text)) without more in
    let one = number_stood (before_first is_dash text) first at in
    let two = number_stood (after_first is_dash text) last at1 in
    let said = range_said first last without two.1 range in (
      said.0,
      said.1,
      said.2 ∙ ap (λ t. t ++ 45 ∷ decimal last) (sym one.0) ∙ ap (λ t. before_first is_dash text ++ 45 ∷ t) (sym two.0)
          ∙ elim (stands 45 text) [ inl none ↦ absurd (none-some without (sym (no_range text none) ∙ is)) | inr whole ↦ sym whole ],
    )

digits_without : (ds : List ℕ) → AllDigits 10 ds → IsTrue (has_none 45 ds)
digits_without [] all = refl
digits_without (c ∷ cs) (one, more) =
    let digit = digit_from_value c one in
    and_from _ _ (not_from_false _ (grind (arith, nat_tests, digit.0))) (digits_without cs more)

entries_named : (first last : ℕ) → CanBeGiven (Entries first last) → named_entries (value_text (Entries first last)) ≡ Some (Entries first last)
entries_named first last (low, order, small) =
    let none = digits_without (decimal first) (decimal_is_IsNumeral first (omega (arith, order, small))).0.1 in
    let one = before_joined 45 (decimal first) (decimal last) none in
    let two = after_joined 45 (decimal first) (decimal last) none in
    let first_is = number_found first (omega (arith, order, small)) in
    let last_is = number_found last small in
    rw (one, two) (rw (first_is, last_is) (rw (le-leb 1 first low, le-leb first last order) refl))

-- ---- Any value.

pub given_named : (without : Without) → CanBeGiven without → named (by_of without) (value_text without) ≡ Some without
given_named (Key key) is = key_named key.source key.name is.0 is.1
given_named (Batch source) is = rw is refl
given_named (Entries first last) is = entries_named first last is

pub named_said : (by : By) (text : List ℕ) (without : Without) → named by text ≡ Some without → IsSaid by text without
named_said by.Key text without is = key_said text without is
named_said by.Batch text without is =
    let both = by_test _ (Batch text) without is in
    let given : IsSaid by.Batch text (Batch text) = (both.0, refl, refl) in
    subst (IsSaid by.Batch text) both.1 given
named_said by.Entries text without is = entries_said text without is
