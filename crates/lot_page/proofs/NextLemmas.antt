-- The values behind others, from which a page begins.
use Rattle.std.proofs.Common.{◌≡◌, ℕ, ℤ, ◌+ℤ◌, negsuc, pos, Bool, true, false, not, true≢false, List, [], ◌∷◌, ◌++◌, refl, sym, ap, ◌∙◌, arith, Ordering, Less, Equal, Greater, int_cmp, is_gt, is_lt, nat_cmp}
use Rattle.std.specs.Cmp.Lexicographic.{slice_cmp}
use Rattle.std.specs.Ordering.{ordering_then}
use Rattle.std.proofs.lemmas.Int.{ints}
use Rattle.sqlite.specs.declared.types.Value.TheVariants.{Int, Text}
use Rattle.sqlite_value.proofs.OrderLemmas.{value_cmp-Int, value_cmp-Text}
use Rattle.sqlite_value.specs.Order.{value_cmp}

-- ---- texts

later_text : (t a : List ℕ) → is_lt (slice_cmp nat_cmp t (a ++ 0 ∷ [])) ≡ not (is_gt (slice_cmp nat_cmp t a))
later_text [] [] = refl
later_text [] (y ∷ a) = refl
later_text (x ∷ t) [] = by_nul (nat_cmp x 0) (not_under x) t
  where
    not_under : (x : ℕ) → is_lt (nat_cmp x 0) ≡ false
    not_under x = grind (arith)

    by_nul : (o : Ordering) → is_lt o ≡ false → (t : List ℕ) → is_lt (ordering_then o (slice_cmp nat_cmp t [])) ≡ false
    by_nul Less low t = absurd (true≢false low)
    by_nul Equal low [] = refl
    by_nul Equal low (y ∷ t) = refl
    by_nul Greater low t = refl
later_text (x ∷ t) (y ∷ a) = by_first (nat_cmp x y) (later_text t a)
  where
    by_first : (o : Ordering) → is_lt (slice_cmp nat_cmp t (a ++ 0 ∷ [])) ≡ not (is_gt (slice_cmp nat_cmp t a))
        → is_lt (ordering_then o (slice_cmp nat_cmp t (a ++ 0 ∷ []))) ≡ not (is_gt (ordering_then o (slice_cmp nat_cmp t a)))
    by_first Less more = refl
    by_first Equal more = more
    by_first Greater more = refl

not_not : (b : Bool) → not (not b) ≡ b
not_not true = refl
not_not false = refl

-- a text is from that with a NUL on where it is greater than that without
pub past_text : (t a : List ℕ) → not (is_lt (value_cmp (Text t) (Text (a ++ 0 ∷ [])))) ≡ is_gt (value_cmp (Text t) (Text a))
past_text t a = ap (λ o. not (is_lt o)) (value_cmp-Text t (a ++ 0 ∷ [])) ∙ ap not (later_text t a) ∙ not_not _ ∙ ap is_gt (sym (value_cmp-Text t a))

-- no text is before the empty one
pub not_shorter : (t : List ℕ) → is_lt (value_cmp (Text t) (Text [])) ≡ false
not_shorter [] = ap is_lt (value_cmp-Text [] [])
not_shorter (x ∷ t) = ap is_lt (value_cmp-Text (x ∷ t) [])

-- ---- numbers

pub past_number : (n k : ℤ) → not (is_lt (value_cmp (Int n) (Int (k +ℤ pos 1)))) ≡ is_gt (value_cmp (Int n) (Int k))
past_number n k = ap (λ o. not (is_lt o)) (value_cmp-Int n (k +ℤ pos 1)) ∙ above n k ∙ ap is_gt (sym (value_cmp-Int n k))
  where
    above : (n k : ℤ) → not (is_lt (int_cmp n (k +ℤ pos 1))) ≡ is_gt (int_cmp n k)
    above n k = grind (arith, ints)

-- the least number that a column holds
abbrev pub least : ℤ
least = negsuc 9223372036854775807

-- no count is below it, nor below zero
pub not_below_least : (n : ℕ) → is_lt (value_cmp (Int (pos n)) (Int least)) ≡ false
not_below_least n = ap is_lt (value_cmp-Int (pos n) least) ∙ above n 9223372036854775807
  where
    above : (n m : ℕ) → is_lt (int_cmp (pos n) (negsuc m)) ≡ false
    above n m = grind (arith, ints)

pub not_negative : (n : ℕ) → is_lt (value_cmp (Int (pos n)) (Int (pos 0))) ≡ false
not_negative n = ap is_lt (value_cmp-Int (pos n) (pos 0)) ∙ above n
  where
    above : (n : ℕ) → is_lt (int_cmp (pos n) (pos 0)) ≡ false
    above n = grind (arith, ints)
