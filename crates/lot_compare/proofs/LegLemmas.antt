-- What an account holds of a commodity is the sum over all legs there.
use Rattle.std.proofs.Common.{◌≡◌, ℕ, zero, suc, ◌≤◌, List, [], ◌∷◌, length, map, refl, sym, ap, ◌∙◌, arith}
use Rattle.std.specs.Prelude.{Bool, true, false, not, cond, filter, Option, None, Some, ℤ, pos, ◌+ℤ◌}
use Rattle.std.specs.List.{AllByRecursion}
use Rattle.std.specs.List.Sorted.{IsStrictlySortedBy}
use Rattle.std.specs.Map.{lookup}
use Rattle.std.specs.Option.{unwrap_or}
use Rattle.std.specs.Ordering.{int_eq, is_eq}
use Rattle.std.specs.declared.cmp.Ordering.{Ordering}
use Rattle.std.specs.declared.cmp.Ordering.TheVariants.{Less}
use Rattle.std.proofs.Math.IntN.{+ℤ_assoc, +ℤ_idl}
use Rattle.std.proofs.lemmas.Int.{ints}
use Rattle.lot_inv.specs.Inventory.{non_zero}
use Rattle.lot_book.specs.Facts.{Entry, legs_of}
use Rattle.lot_book.specs.Holding.{entry_of, position_of}
use Rattle.lot_book.specs.Leg.{position_cmp, same_position}
use Rattle.lot_book.specs.declared.holding.Holding.{Holding}
use Rattle.lot_book.specs.declared.leg.Leg.{Leg}
use Rattle.lot_book.specs.declared.leg.Position.{Position}
use Rattle.lot_book.proofs.OrderLemmas.{one_position, same_position-itself}
use Rattle.lot_book.proofs.SumLemmas.{sum_where, sum_where-cons}
use Rattle.lot_laws.proofs.LawHoldings.{holds_sum}
use Rattle.lot_compare.specs.Amounts.{AreHeld, held_amount, held_of, subject_of}
use Rattle.lot_compare.specs.Sums.{Amount, same_subject, sum_at}
use Rattle.lot_compare.specs.declared.subject.Subject.{Subject}

module _ (is_in : Position → Bool) where
  module _ {X : Type 0} (key : X → Position) (units : X → ℤ) where
    abbrev there : Position → List X → ℤ
    there p xs = sum_where (λ (x : X). same_position p (key x)) units xs

    abbrev all_in : List X → ℤ
    all_in xs = sum_where (λ (x : X). is_in (key x)) units xs

    abbrev apart : Position → List X → List X
    apart p xs = filter (λ (x : X). not (same_position p (key x))) xs

    there_cons : (p : Position) (x : X) (xs : List X) → there p (x ∷ xs) ≡ cond (same_position p (key x)) (units x +ℤ there p xs) (there p xs)
    there_cons p x xs = sum_where-cons (λ (y : X). same_position p (key y)) units x xs

    all_cons : (x : X) (xs : List X) → all_in (x ∷ xs) ≡ cond (is_in (key x)) (units x +ℤ all_in xs) (all_in xs)
    all_cons x xs = sum_where-cons (λ (y : X). is_in (key y)) units x xs

    -- what is left in a position without those in another
    there_apart : (q p : Position) (xs : List X) → there q (apart p xs) ≡ cond (same_position q p) (pos 0) (there q xs)
    there_apart q p [] = by (same_position q p)
      where
        by : (b : Bool) → pos 0 ≡ cond b (pos 0) (pos 0)
        by true = refl
        by false = refl
    there_apart q p (x ∷ xs) = by (same_position p (key x)) (same_position q p) refl refl (there_apart q p xs)
      where
        by : (here own : Bool) → same_position p (key x) ≡ here → same_position q p ≡ own
            → there q (apart p xs) ≡ cond (same_position q p) (pos 0) (there q xs)
            → there q (cond (not here) (x ∷ apart p xs) (apart p xs)) ≡ cond own (pos 0) (there q (x ∷ xs))
        by true true e o rest = rest ∙ ap (λ (b : Bool). cond b (pos 0) (there q xs)) o
        by true false e o rest =
            rest ∙ ap (λ (b : Bool). cond b (pos 0) (there q xs)) o
            ∙ sym (there_cons q x xs ∙ ap (λ (b : Bool). cond b (units x +ℤ there q xs) (there q xs)) (ap (same_position q) (sym (one_position p (key x) e)) ∙ o))
        by false true e o rest =
            there_cons q x (apart p xs)
            ∙ ap (λ (b : Bool). cond b (units x +ℤ there q (apart p xs)) (there q (apart p xs)))
            (ap (λ (r : Position). same_position r (key x)) (one_position q p o) ∙ e)
            ∙ rest ∙ ap (λ (b : Bool). cond b (pos 0) (there q xs)) o
        by false false e o rest =
            there_cons q x (apart p xs)
            ∙ ap (λ (sum : ℤ). cond (same_position q (key x)) (units x +ℤ sum) sum) (rest ∙ ap (λ (b : Bool). cond b (pos 0) (there q xs)) o)
            ∙ sym (there_cons q x xs)

    shift : (a b c : ℤ) → a +ℤ (b +ℤ c) ≡ b +ℤ (a +ℤ c)
    shift a b c = omega (arith, ints)

    -- the sum of some positions is that of one of them and of the others
    all_split : (p : Position) (xs : List X) → all_in xs ≡ cond (is_in p) (there p xs) (pos 0) +ℤ all_in (apart p xs)
    all_split p [] = by (is_in p)
      where
        by : (b : Bool) → pos 0 ≡ cond b (pos 0) (pos 0) +ℤ pos 0
        by true = refl
        by false = refl
    all_split p (x ∷ xs) = all_cons x xs ∙ by (same_position p (key x)) refl (all_split p xs)
      where
        rest : ℤ
        rest = all_in (apart p xs)

        one : (b : Bool) (v at : ℤ) → cond b (v +ℤ (cond b at (pos 0) +ℤ rest)) (cond b at (pos 0) +ℤ rest) ≡ cond b (v +ℤ at) (pos 0) +ℤ rest
        one true v at = sym (+ℤ_assoc v at rest)
        one false v at = refl

        other : (b : Bool) (v at : ℤ) → cond b (v +ℤ (at +ℤ rest)) (at +ℤ rest) ≡ at +ℤ cond b (v +ℤ rest) rest
        other true v at = shift v at rest
        other false v at = refl

        by : (here : Bool) → same_position p (key x) ≡ here → all_in xs ≡ cond (is_in p) (there p xs) (pos 0) +ℤ rest
            → cond (is_in (key x)) (units x +ℤ all_in xs) (all_in xs)
            ≡ cond (is_in p) (there p (x ∷ xs)) (pos 0) +ℤ all_in (cond (not here) (x ∷ apart p xs) (apart p xs))
        by true e split =
            ap (λ (r : Position). cond (is_in r) (units x +ℤ all_in xs) (all_in xs)) (sym (one_position p (key x) e))
            ∙ ap (λ (sum : ℤ). cond (is_in p) (units x +ℤ sum) sum) split
            ∙ one (is_in p) (units x) (there p xs)
            ∙ ap (λ (sum : ℤ). cond (is_in p) sum (pos 0) +ℤ rest) (sym (there_cons p x xs ∙ ap (λ (b : Bool). cond b (units x +ℤ there p xs) (there p xs)) e))
        by false e split =
            ap (λ (sum : ℤ). cond (is_in (key x)) (units x +ℤ sum) sum) split
            ∙ other (is_in (key x)) (units x) (cond (is_in p) (there p xs) (pos 0))
            ∙ ap (λ (sum : ℤ). cond (is_in p) (there p xs) (pos 0) +ℤ sum) (sym (all_cons x (apart p xs)))
            ∙ ap (λ (sum : ℤ). cond (is_in p) sum (pos 0) +ℤ all_in (x ∷ apart p xs))
            (sym (there_cons p x xs ∙ ap (λ (b : Bool). cond b (units x +ℤ there p xs) (there p xs)) e))

    apart_short : (p : Position) (xs : List X) → length (apart p xs) ≤ length xs
    apart_short p [] = omega arith
    apart_short p (x ∷ xs) = by (not (same_position p (key x))) (apart_short p xs)
      where
        by : (b : Bool) → length (apart p xs) ≤ length xs → length (cond b (x ∷ apart p xs) (apart p xs)) ≤ suc (length xs)
        by true less = omega (arith, less)
        by false less = omega (arith, less)

    -- where no position holds some
    all_none : (n : ℕ) (xs : List X) → length xs ≤ n → ((q : Position) → there q xs ≡ pos 0) → all_in xs ≡ pos 0
    all_none n [] short none = refl
    all_none zero (x ∷ xs) short none = absurd (omega (arith, short))
    all_none (suc n) (x ∷ xs) short none =
        let p = key x in
        let less = apart_short p xs in
        let own = same_position-itself p in
        let left : apart p (x ∷ xs) ≡ apart p xs = ap (λ (b : Bool). cond (not b) (x ∷ apart p xs) (apart p xs)) own in
        all_split p (x ∷ xs)
        ∙ ap (λ (sum : ℤ). cond (is_in p) sum (pos 0) +ℤ all_in (apart p (x ∷ xs))) (none p)
        ∙ ap (λ (ys : List X). cond (is_in p) (pos 0) (pos 0) +ℤ all_in ys) left
        ∙ ap (λ (sum : ℤ). cond (is_in p) (pos 0) (pos 0) +ℤ sum)
        (all_none n (apart p xs) (omega (arith, short, less))
        (λ q. ap (there q) (sym left) ∙ there_apart q p (x ∷ xs) ∙ ap (λ (sum : ℤ). cond (same_position q p) (pos 0) sum) (none q) ∙ nothing (same_position q p)))
        ∙ zeros (is_in p)
      where
        nothing : (b : Bool) → cond b (pos 0) (pos 0) ≡ pos 0
        nothing true = refl
        nothing false = refl

        zeros : (b : Bool) → cond b (pos 0) (pos 0) +ℤ pos 0 ≡ pos 0
        zeros true = refl
        zeros false = refl

  -- ---- rows, each position once

  below_all : (first : Position) (rows : List Holding) → AllByRecursion (λ (p : Position). position_cmp first p ≡ Less) (map position_of rows)
      → lookup (same_position first) (map entry_of rows) ≡ None
  below_all first [] below = refl
  below_all first (row ∷ rows) below =
      ap (λ (o : Ordering). cond (is_eq o) (Some row.units) (lookup (same_position first) (map entry_of rows))) below.0 ∙ below_all first rows below.1

  rows_sum : {X : Type 0} (key : X → Position) (units : X → ℤ) (rows : List Holding) (xs : List X)
      → IsStrictlySortedBy position_cmp (map position_of rows)
      → ((q : Position) → unwrap_or (lookup (same_position q) (map entry_of rows)) (pos 0) ≡ there key units q xs)
      → sum_where (λ (row : Holding). is_in (position_of row)) (λ (row : Holding). row.units) rows ≡ all_in key units xs
  unfolding IsStrictlySortedBy
  rows_sum key units [] xs order each = sym (all_none key units (length xs) xs (omega arith) (λ q. sym (each q)))
  rows_sum {X} key units (row ∷ rows) xs order each =
      sum_where-cons (λ (h : Holding). is_in (position_of h)) (λ (h : Holding). h.units) row rows
      ∙ ap (λ (sum : ℤ). cond (is_in p) (row.units +ℤ sum) sum) (rows_sum key units rows (apart key units p xs) order.1 others)
      ∙ one (is_in p) row.units (all_in key units (apart key units p xs))
      ∙ ap (λ (sum : ℤ). cond (is_in p) sum (pos 0) +ℤ all_in key units (apart key units p xs)) own
      ∙ sym (all_split key units p xs)
    where
      p : Position
      p = position_of row

      own : row.units ≡ there key units p xs
      own =
          sym (ap (λ (b : Bool). unwrap_or (cond b (Some row.units) (lookup (same_position p) (map entry_of rows))) (pos 0)) (same_position-itself p))
          ∙ each p

      one : (b : Bool) (v sum : ℤ) → cond b (v +ℤ sum) sum ≡ cond b v (pos 0) +ℤ sum
      one true v sum = refl
      one false v sum = sym (+ℤ_idl sum)

      others : (q : Position) → unwrap_or (lookup (same_position q) (map entry_of rows)) (pos 0) ≡ there key units q (apart key units p xs)
      others q = by (same_position q p) refl ∙ sym (there_apart key units q p xs)
        where
          by : (b : Bool) → same_position q p ≡ b
              → unwrap_or (lookup (same_position q) (map entry_of rows)) (pos 0) ≡ cond (same_position q p) (pos 0) (there key units q xs)
          by true e =
              ap (λ (r : Position). unwrap_or (lookup (same_position r) (map entry_of rows)) (pos 0)) (one_position q p e)
              ∙ ap (λ (found : Option ℤ). unwrap_or found (pos 0)) (below_all p rows order.0)
              ∙ sym (ap (λ (b : Bool). cond b (pos 0) (there key units q xs)) e)
          by false e =
              sym (ap (λ (b : Bool). unwrap_or (cond b (Some row.units) (lookup (same_position q) (map entry_of rows))) (pos 0)) e)
              ∙ each q
              ∙ sym (ap (λ (b : Bool). cond b (pos 0) (there key units q xs)) e)

-- ---- what a book holds

is_zero : (z : ℤ) → int_eq z (pos 0) ≡ true → z ≡ pos 0
is_zero z e = grind (arith, ints)

kept_units : (units : ℤ) → unwrap_or (non_zero units) (pos 0) ≡ units
kept_units units = by (int_eq units (pos 0)) refl
  where
    by : (b : Bool) → int_eq units (pos 0) ≡ b → unwrap_or (cond b None (Some units)) (pos 0) ≡ units
    by true e = sym (is_zero units e)
    by false e = refl

sum_mapped : (s : Subject) (rows : List Holding)
    → sum_at (map held_amount rows) s ≡ sum_where (λ (row : Holding). same_subject s (subject_of (position_of row))) (λ (row : Holding). row.units) rows
sum_mapped s [] = refl
sum_mapped s (row ∷ rows) =
    sum_where-cons (λ (a : Amount). same_subject s a.0) (λ (a : Amount). a.1) (held_amount row) (map held_amount rows)
    ∙ ap (λ (sum : ℤ). cond (same_subject s (subject_of (position_of row))) (row.units +ℤ sum) sum) (sum_mapped s rows)
    ∙ sym (sum_where-cons (λ (h : Holding). same_subject s (subject_of (position_of h))) (λ (h : Holding). h.units) row rows)

pub held_is_sum_of_legs : (entries : List Entry) (amounts : List Amount) (s : Subject) → AreHeld entries amounts → sum_at amounts s ≡ held_of entries s
held_is_sum_of_legs entries amounts s (rows, lists, is) =
    ap (λ (all : List Amount). sum_at all s) is ∙ sum_mapped s rows
    ∙ rows_sum (λ (p : Position). same_subject s (subject_of p)) (λ (leg : Leg). leg.position) (λ (leg : Leg). leg.units) rows (legs_of entries) lists.in_order
    (λ q. ap (λ (found : Option ℤ). unwrap_or found (pos 0)) (lists.each q) ∙ kept_units _ ∙ holds_sum (legs_of entries) q)
