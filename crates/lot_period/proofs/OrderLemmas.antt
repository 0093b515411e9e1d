-- Texts of periods sort as their days.
use Rattle.std.specs.Prelude.{◌≡◌, ◌≢◌, ℕ, zero, suc, ◌+◌, ◌/◌, ◌%◌, ◌≤◌, ◌<◌, Bool, true, false, if◌then◌else◌, ℤ, pos, ◌≤ℤ◌, int_le, List, [], ◌∷◌, ◌++◌}
use Rattle.std.specs.declared.cmp.Ordering.TheVariants.{Less, Equal, Greater}
use Rattle.std.specs.Ordering.{nat_cmp}
use Rattle.std.proofs.Common.{refl, sym, ap, ◌∙◌, arith, inl, inr, subst}
use Rattle.std.proofs.lemmas.Bool.{cases_order, true≢false}
use Rattle.std.proofs.lemmas.Bool.Decides.{nat_tests}
use Rattle.std.proofs.lemmas.Int.{ints}
use Rattle.jiff_core.specs.Calendar.{days_from_civil}
use Rattle.lot_base.specs.Day.{count_to, four_digits, last_year, month_of, two_digits, year_of}
use Rattle.lot_base.specs.Text.{text_cmp}
use Rattle.lot_period.specs.Period.{LaterTextIsNotBefore, part_text, period_text, quarter_of}
use Rattle.lot_period.specs.declared.period.PeriodLength.{PeriodLength}
use Rattle.lot_period.specs.declared.period.PeriodLength.TheVariants.{Month, Quarter, Year}

-- ---- years and months of days

one_more : (p q : Bool) (n m : ℕ) → n ≤ m → (p ≡ true → q ≡ true) → n + (if p then 1 else 0) ≤ m + (if q then 1 else 0)
one_more true true n m le so = omega arith
one_more true false n m le so = absurd (true≢false (sym (so refl)))
one_more false true n m le so = omega arith
one_more false false n m le so = omega arith

-- where what passes one test passes another, no more pass it
counts : (p q : ℕ → Bool) (n : ℕ) → ((i : ℕ) → p i ≡ true → q i ≡ true) → count_to p n ≤ count_to q n
unfolding count_to
counts p q zero so = omega arith
counts p q (suc n) so = one_more (p (suc n)) (q (suc n)) _ _ (counts p q n so) (so (suc n))

begun : (day first later : ℤ) → first ≤ℤ later → int_le day first ≡ true → int_le day later ≡ true
begun day first later le is = grind (arith, ints)

years : (first later : ℤ) → first ≤ℤ later → year_of first ≤ year_of later
unfolding year_of
years first later le =
    counts (λ year. int_le (days_from_civil (pos year) 1 1) first) (λ year. int_le (days_from_civil (pos year) 1 1) later) last_year
    (λ year is. begun (days_from_civil (pos year) 1 1) first later le is)

months : (first later : ℤ) → first ≤ℤ later → year_of first ≡ year_of later → month_of first ≤ month_of later
unfolding month_of
months first later le same =
    counts (λ month. int_le (days_from_civil (pos (year_of first)) month 1) first) (λ month. int_le (days_from_civil (pos (year_of later)) month 1) later) 12
    (λ month is. begun (days_from_civil (pos (year_of later)) month 1) first later le
    (subst (λ year. int_le (days_from_civil (pos year) month 1) first ≡ true) same is))

-- ---- texts

-- the first text doesn't sort behind the second
abbrev InOrder : List ℕ → List ℕ → Type 0
InOrder a b = text_cmp a b ≢ Greater

less : (x y : ℕ) → x < y → nat_cmp x y ≡ Less
less x y lt = grind (arith, nat_tests)

equal : (x : ℕ) → nat_cmp x x ≡ Equal
equal x = grind (arith, nat_tests)

-- a byte before the rest, which decides where the bytes are the same
bytes : (x y : ℕ) (xs ys : List ℕ) → x ≤ y → (x ≡ y → InOrder xs ys) → InOrder (x ∷ xs) (y ∷ ys)
bytes x y xs ys le rest = elim (cases_order x y) [
  | inr (inl lt) ↦ rw (less x y lt) (λ is. cc)
  | inl same ↦ rw (same, equal y) (rest same)
  | inr (inr gt) ↦ absurd (omega arith)
]

twos : (a b : ℕ) (xs ys : List ℕ) → a ≤ b → (a ≡ b → InOrder xs ys) → InOrder (two_digits a ++ xs) (two_digits b ++ ys)
twos a b xs ys le rest =
    bytes (48 + a / 10) (48 + b / 10) ((48 + a % 10) ∷ xs) ((48 + b % 10) ∷ ys) (omega arith)
    (λ tens. bytes (48 + a % 10) (48 + b % 10) xs ys (omega arith) (λ ones. rest (omega arith)))

fours : (a b : ℕ) (xs ys : List ℕ) → a ≤ b → (a ≡ b → InOrder xs ys) → InOrder (four_digits a ++ xs) (four_digits b ++ ys)
fours a b xs ys le rest =
    twos (a / 100) (b / 100) (two_digits (a % 100) ++ xs) (two_digits (b % 100) ++ ys) (omega arith)
    (λ hundreds. twos (a % 100) (b % 100) xs ys (omega arith) (λ ones. rest (omega arith)))

parts : (length : PeriodLength) (a b : ℕ) → a ≤ b → InOrder (part_text length a) (part_text length b)
parts Year a b le = λ is. cc
parts Quarter a b le =
    bytes 45 45 (81 ∷ (48 + quarter_of a) ∷ []) (81 ∷ (48 + quarter_of b) ∷ []) (omega arith)
    (λ dash. bytes 81 81 ((48 + quarter_of a) ∷ []) ((48 + quarter_of b) ∷ []) (omega arith)
    (λ letter. bytes (48 + quarter_of a) (48 + quarter_of b) [] [] (omega arith) (λ same is. cc)))
parts Month a b le = bytes 45 45 (two_digits a) (two_digits b) (omega arith) (λ dash. twos a b [] [] le (λ same is. cc))

pub in_order : LaterTextIsNotBefore
in_order length first later le =
    fours (year_of first) (year_of later) (part_text length (month_of first)) (part_text length (month_of later)) (years first later le)
    (λ same. parts length (month_of first) (month_of later) (months first later le same))
