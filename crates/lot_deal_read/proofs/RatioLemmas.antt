-- What a text says as a ratio.
use Rattle.std.proofs.Common.{rules, ◌≡◌, ◌≢◌, ◌≤◌, ◌<◌, ◌⊎◌, inl, inr, ℕ, zero, suc, ◌*◌, ◌^◌, Bool, true, false, cond, List, [], ◌∷◌, length, Option, Some, None, Result, Ok, Err, pos, refl, ap, sym, ◌∙◌, arith}
use Rattle.std.proofs.lemmas.Bool.{cases_lt}
use Rattle.std.proofs.lemmas.Bool.Decides.{nat_tests}
use Rattle.std.proofs.lemmas.Int.{ints}
use Rattle.std.proofs.lemmas.List.{drop_all}
use Rattle.std.proofs.lemmas.Result.{OkIff-at_err, OkIff-at_ok}
use Rattle.std.proofs.lemmas.Str.Parse.{IsNumeralModel, numerals_by_value, parse_digits}
use Rattle.std.specs.Char.{is_ascii_digit}
use Rattle.std.specs.List.{after_first, before_first, list_all, list_any, position_or_len}
use Rattle.std.specs.Option.{is_some}
use Rattle.std.specs.Prelude.{◌==◌, ◌&&◌, ◌||◌, IfSome, nat_lt}
use Rattle.std.specs.Str.Parse.{ParsesUnsigned, digits_value}
use Rattle.lot_field.specs.Field.{cut}
use Rattle.lot_rounding.specs.Ratio.{AreInRatio, IsLowest, most_in_ratio}
use Rattle.lot_rounding.specs.declared.ratio.Ratio.{Ratio}
use Rattle.lot_deal_read.specs.Ratio.{is_colon, is_small, ratio_in, up_to, whole, with_new}

-- ---- Whole numbers.

own : IsNumeralModel (λ ds. list_all is_ascii_digit ds ≡ true) (digits_value 10)
own = numerals_by_value _ (search rules)

some_by : (a b c : Bool) (v : ℕ) → a ≡ true → b ≡ true → c ≡ true → cond (a && b && c) (Some v) None ≡ Some v
some_by a b c v e f g = rw (e, f, g) refl

none_by : (a b c : Bool) (v : ℕ) → c ≡ false → cond (a && b && c) (Some v) None ≡ None
none_by true true c v e = rw e refl
none_by true false c v e = refl
none_by false b c v e = refl

pub whole_ok : {E : Type 0} (text : List ℕ) (r : Result ℕ E) (n : ℕ) → ParsesUnsigned 64 10 text r → list_all is_ascii_digit text ≡ true
    → r ≡ Ok n → 0 < n → Some n ≡ whole text
whole_ok text r n h digits is some =
    let p : ((0 < length text) × (digits_value 10 text < 2 ^ 64)) × (n ≡ digits_value 10 text) =
    OkIff-at_ok r _ (digits_value 10 text) n (parse_digits own 64 text r h digits) is in
    let small = p.0.1 in
    let same = p.1 in
    ap Some same
    ∙ sym (some_by (list_all is_ascii_digit text) (nat_lt 0 (digits_value 10 text)) (nat_lt (digits_value 10 text) (2 ^ 64)) (digits_value 10 text) digits (grind (arith, nat_tests)) (grind (arith, nat_tests)))

large : (v : ℕ) (small : Bool) → nat_lt v (2 ^ 64) ≡ small → ((v < 2 ^ 64) → ⊥) → small ≡ false
large v true e beyond = absurd (beyond (grind (arith, nat_tests)))
large v false e beyond = refl

pub whole_err : {E : Type 0} (text : List ℕ) (r : Result ℕ E) (e : E) → ParsesUnsigned 64 10 text r → list_all is_ascii_digit text ≡ true
    → r ≡ Err e → None ≡ whole text
whole_err [] r e h digits is = refl
whole_err (b ∷ bs) r e h digits is =
    let text : List ℕ = b ∷ bs in
    let beyond : ((0 < length text) × (digits_value 10 text < 2 ^ 64)) → ⊥ =
    OkIff-at_err r _ (digits_value 10 text) e (parse_digits own 64 text r h digits) is in
    sym (none_by (list_all is_ascii_digit text) (nat_lt 0 (digits_value 10 text)) (nat_lt (digits_value 10 text) (2 ^ 64)) (digits_value 10 text)
    (large (digits_value 10 text) (nat_lt (digits_value 10 text) (2 ^ 64)) refl (λ few. beyond (omega arith, few))))

-- ---- Two whole numbers.

no_old : (new : Option ℕ) → with_new new None ≡ None
no_old None = refl
no_old (Some new) = refl

pub no_colon : (text : List ℕ) → position_or_len is_colon text ≡ length text → None ≡ ratio_in text
unfolding ratio_in
no_colon text e =
    let behind : after_first is_colon text ≡ [] = drop_all _ text (omega (arith, e)) in
    sym (ap (λ (rest : List ℕ). with_new (whole (cut (before_first is_colon text))) (whole (cut rest))) behind ∙ no_old _)

pub with_colon : (text new old : List ℕ) → new ≡ before_first is_colon text → old ≡ after_first is_colon text
    → with_new (whole (cut new)) (whole (cut old)) ≡ ratio_in text
unfolding ratio_in
with_colon text new old e f = rw (e, f) refl

-- ---- Small ratios.

or_true : (a b : Bool) → (a ≡ true) ⊎ (b ≡ true) → (a || b) ≡ true
or_true true b h = refl
or_true false b (inl e) = absurd (cc)
or_true false b (inr e) = e

at_one : (p : ℕ → Bool) (n k : ℕ) → 1 ≤ k → k ≤ n → p k ≡ true → list_any p (up_to n) ≡ true
unfolding up_to
at_one p zero k least most e = absurd (omega arith)
at_one p (suc n) k least most e =
    or_true (p (suc n)) (list_any p (up_to n)) (elim (cases_lt n k) [
      | inl more ↦ let same : k ≡ suc n = omega arith in inl (ap p (sym same) ∙ e)
      | inr fewer ↦ inr (at_one p n k least fewer e)
    ])

record Found (p : ℕ → Bool) (n : ℕ) : Type 0 where
  k : ℕ
  least : 1 ≤ k
  most : k ≤ n
  is : p k ≡ true

found_by : (p : ℕ → Bool) (n : ℕ) (here : Bool) → p (suc n) ≡ here → (rest : Bool) → (rest ≡ true → Found p n) → (here || rest) ≡ true → Found p (suc n)
found_by p n true e rest more h = record { k = suc n; least = omega arith; most = omega arith; is = e }
found_by p n false e rest more h =
    let f = more h in record { k = f.k; least = f.least; most = omega (arith, f.most); is = f.is }

found : (p : ℕ → Bool) (n : ℕ) → list_any p (up_to n) ≡ true → Found p n
unfolding up_to
found p zero e = absurd (cc)
found p (suc n) e = found_by p n (p (suc n)) refl (list_any p (up_to n)) (λ h. found p n h) e

both : (a b : Bool) → a ≡ true → b ≡ true → (a && b) ≡ true
both a b e f = rw (e, f) refl

first : (a b : Bool) → (a && b) ≡ true → a ≡ true
first true b e = refl
first false b e = e

second : (a b : Bool) → (a && b) ≡ true → b ≡ true
second true b e = e
second false b e = absurd (cc)

small : (ratio other : Ratio) → AreInRatio (pos ratio.new, pos ratio.old) other → is_small ratio ≡ true
unfolding is_small
small ratio other h =
    let zero_or : ratio.old ≢ 0 = λ e. h.some (ap pos e) in
    let same : (ratio.new * other.old == ratio.old * other.new) ≡ true = grind (arith, ints, nat_tests, h.same) in
    both _ _ (grind (arith, nat_tests))
    (at_one _ most_in_ratio other.old h.proper.least_old h.proper.most_old
    (at_one (λ (new : ℕ). ratio.new * other.old == ratio.old * new) most_in_ratio other.new h.proper.least_new h.proper.most_new same))

ratio_of : (ratio : Ratio) → is_small ratio ≡ true → (other : Ratio) × AreInRatio (pos ratio.new, pos ratio.old) other
unfolding is_small
ratio_of ratio e =
    let above : nat_lt 0 ratio.old ≡ true = first (nat_lt 0 ratio.old) _ e in
    let some : 0 < ratio.old = grind (arith, nat_tests) in
    let test : ℕ → Bool = λ old. list_any (λ (new : ℕ). ratio.new * old == ratio.old * new) (up_to most_in_ratio) in
    let old : Found test most_in_ratio = found test most_in_ratio (second (nat_lt 0 ratio.old) (list_any test (up_to most_in_ratio)) e) in
    let new : Found (λ (n : ℕ). ratio.new * old.k == ratio.old * n) most_in_ratio = found (λ (n : ℕ). ratio.new * old.k == ratio.old * n) most_in_ratio old.is in
    let is : (ratio.new * old.k == ratio.old * new.k) ≡ true = new.is in
    let same : ratio.new * old.k ≡ ratio.old * new.k = grind (arith, nat_tests) in (
      record { new = new.k; old = old.k },
      record {
        some = λ e. omega (arith, ints, e);
        proper = record { least_new = new.least; most_new = new.most; least_old = old.least; most_old = old.most };
        same = ap pos same;
      },
    )

not_small : (ratio : Ratio) (test : Bool) → is_small ratio ≡ test → ((other : Ratio) → AreInRatio (pos ratio.new, pos ratio.old) other → ⊥) → false ≡ test
not_small ratio true e none = let r : (other : Ratio) × AreInRatio (pos ratio.new, pos ratio.old) other = ratio_of ratio e in absurd (none r.0 r.1)
not_small ratio false e none = refl

pub small_is : (ratio : Ratio) (r : Option Ratio) → IfSome r (IsLowest (pos ratio.new, pos ratio.old))
    → (r ≡ None → (other : Ratio) → AreInRatio (pos ratio.new, pos ratio.old) other → ⊥) → is_some r ≡ is_small ratio
small_is ratio None some none = not_small ratio (is_small ratio) refl (none refl)
small_is ratio (Some other) some none = sym (small ratio other some.are)
