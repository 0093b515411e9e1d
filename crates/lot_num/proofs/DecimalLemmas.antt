-- What the decimals that are shown say, and that no fewer say it.
use Rattle.std.proofs.Common.{◌≡◌, ◌≢◌, ◌⊎◌, inl, inr, ℕ, zero, suc, ◌+◌, ◌-◌, ◌*◌, ◌/◌, ◌%◌, ◌^◌, ◌<◌, ◌≤◌, min, max, Bool, true, false, cond, ◌&&◌, List, [], ◌∷◌, ◌++◌, length, take, replicate, refl, ap, ◌∙◌, sym, rules, arith, eqb, ltb, lit≤, append_assoc, length-append}
use Rattle.std.specs.Fmt.{decimal}
use Rattle.std.specs.Str.Parse.{digits_value, AllDigits}
use Rattle.std.proofs.lemmas.Bool.{cases_lt}
use Rattle.std.proofs.lemmas.Bool.Decides.{nat_tests}
use Rattle.std.proofs.lemmas.Fmt.{decimal_is_IsNumeral, length-decimal-le}
use Rattle.std.proofs.lemmas.Grind.{pow_more}
use Rattle.std.proofs.lemmas.Int.Digits.{digits_value_push}
use Rattle.std.proofs.lemmas.List.{take-replicate, length-replicate}
use Rattle.std.proofs.lemmas.Str.Parse.{digit_from_value}
use Rattle.std.proofs.Math.Seq.{take-append-add}
use Rattle.lot_num.specs.AmountText.{zero_padded, shown_decimals}
use Rattle.lot_num.specs.NumberGrammar.{AreDigits}
use Rattle.lot_num.specs.NumberText.{first_decimals}

-- ---- Zeros before a number, and behind it

digits_value-zeros_before : (k : ℕ) (ds : List ℕ) → digits_value 10 (replicate k 48 ++ ds) ≡ digits_value 10 ds
digits_value-zeros_before zero ds = refl
digits_value-zeros_before (suc k) ds = digits_value-zeros_before k ds

shift : (v p q : ℕ) → q ≡ p * 10 → (v * 10 + 0) * p ≡ v * q
shift v p q e = rw e (omega arith)

pub digits_value-zeros_behind : (k : ℕ) (ds : List ℕ) → digits_value 10 (ds ++ replicate k 48) ≡ digits_value 10 ds * 10 ^ k
digits_value-zeros_behind zero ds =
    let whole : ds ++ [] ≡ ds = search rules in
    ap (digits_value 10) whole ∙ (omega arith)
digits_value-zeros_behind (suc k) ds =
    let one_more : 10 ^ suc k ≡ 10 ^ k * 10 = omega (arith, pow_more 10 k) in
    ap (digits_value 10) (sym (append_assoc ds (48 ∷ []) (replicate k 48)))
    ∙ digits_value-zeros_behind k (ds ++ (48 ∷ []))
    ∙ ap (λ v. v * 10 ^ k) (digits_value_push 10 ds 48)
    ∙ shift (digits_value 10 ds) (10 ^ k) (10 ^ suc k) one_more

-- ---- The text of a number is digits

digits_from_all : (ds : List ℕ) → AllDigits 10 ds → AreDigits ds
digits_from_all [] h = tt
digits_from_all (d ∷ ds) (first, others) =
    let range = digit_from_value d first in
    ((omega arith, omega arith), digits_from_all ds others)

pub decimal_digits : (n : ℕ) → n < 2 ^ 64 → AreDigits (decimal n)
decimal_digits n small = digits_from_all (decimal n) (decimal_is_IsNumeral n small).0.1

pub decimal_value : (n : ℕ) → n < 2 ^ 64 → digits_value 10 (decimal n) ≡ n
decimal_value n small = (decimal_is_IsNumeral n small).1

zeros_digits : (k : ℕ) (ds : List ℕ) → AreDigits ds → AreDigits (replicate k 48 ++ ds)
zeros_digits zero ds h = h
zeros_digits (suc k) ds h = ((lit≤ tt, lit≤ tt), zeros_digits k ds h)

length-zero_padded : (k n : ℕ) → 0 < k → n < 10 ^ k → n < 2 ^ 64 → length (zero_padded k n) ≡ k
length-zero_padded k n some below small = omega (arith, length-append (replicate (k - length (decimal n)) 48) (decimal n), length-replicate {A = ℕ} (k - length (decimal n)) 48, length-decimal-le k n some below small)

-- ---- The decimals that are shown of a fraction of k places

pub record IsShown (least k n : ℕ) (ds : List ℕ) : Type 0 where
  pub digits : AreDigits ds
  pub short : length ds ≤ k
  pub enough : min least k ≤ length ds
  pub value : digits_value 10 ds * 10 ^ (k - length ds) ≡ n
  pub shortest : (others : List ℕ) → length others ≤ k → digits_value 10 others * 10 ^ (k - length others) ≡ n → length ds ≤ max least (length others)

-- the number of a text of one place less, or more, ends in a zero
ends_in_zero : (k n len value : ℕ) → len ≤ k → value * 10 ^ (suc k - len) ≡ n → n ≡ value * 10 ^ (k - len) * 10
ends_in_zero k n len value within says =
    let one_less : suc k - len ≡ (k - len) + 1 = omega arith in
    let power : 10 ^ (suc k - len) ≡ 10 ^ (k - len) * 10 = ap (λ e. 10 ^ e) one_less ∙ pow_more 10 (k - len) in
    sym says ∙ ap (λ p. value * p) power ∙ (omega arith)

all_needed : (least k n len value shown : ℕ) → shown ≡ suc k → (suc k ≤ least) ⊎ (n % 10 ≢ 0) → len ≤ suc k → value * 10 ^ (suc k - len) ≡ n → shown ≤ max least len
all_needed least k n len value shown whole (inl few) within says = omega arith
all_needed least k n len value shown whole (inr ends) within says =
    elim (cases_lt k len) [
      | inl all ↦ omega arith
      | inr fewer ↦ absurd (ends (omega (arith, ends_in_zero k n len value fewer says)))
    ]

-- all k of them, where no more than the least are there, or the last is no zero
all_shown : (least k n : ℕ) → n < 10 ^ suc k → n < 2 ^ 64 → (suc k ≤ least) ⊎ (n % 10 ≢ 0) → IsShown least (suc k) n (zero_padded (suc k) n)
all_shown least k n below small why =
    let whole : length (zero_padded (suc k) n) ≡ suc k = length-zero_padded (suc k) n (omega arith) below small in
    record {
      digits = zeros_digits (suc k - length (decimal n)) (decimal n) (decimal_digits n small);
      short = omega arith;
      enough = omega arith;
      value =
          let none : suc k - length (zero_padded (suc k) n) ≡ 0 = omega arith in
          ap (λ e. digits_value 10 (zero_padded (suc k) n) * 10 ^ e) none
          ∙ (omega (arith, digits_value-zeros_before (suc k - length (decimal n)) (decimal n), decimal_value n small));
      shortest = λ others within says. all_needed least k n (length others) (digits_value 10 others) (length (zero_padded (suc k) n)) whole why within says;
    }

-- those of a fraction of one place less, where the last is a zero
fewer_shown : (least k n : ℕ) (ds : List ℕ) → least ≤ k → n % 10 ≡ 0 → IsShown least k (n / 10) ds → IsShown least (suc k) n ds
fewer_shown least k n ds few ends h = record {
  digits = h.digits;
  short = omega (arith, h.short);
  enough = omega (arith, h.enough);
  value =
      let one_less : suc k - length ds ≡ (k - length ds) + 1 = omega (arith, h.short) in
      let power : 10 ^ (suc k - length ds) ≡ 10 ^ (k - length ds) * 10 = ap (λ e. 10 ^ e) one_less ∙ pow_more 10 (k - length ds) in
      ap (λ p. digits_value 10 ds * p) power ∙ (omega (arith, h.value));
  shortest = λ others within says. elim (cases_lt k (length others)) [
    | inl all ↦ omega (arith, h.short)
    | inr fewer ↦
        let zero_last = ends_in_zero k n (length others) (digits_value 10 others) fewer says in
        h.shortest others fewer (omega arith)
  ];
}

shown_by : (least k n : ℕ) (more zero_last : Bool) → ltb least (suc k) ≡ more → eqb (n % 10) 0 ≡ zero_last → n < 10 ^ suc k → n < 2 ^ 64 → IsShown least k (n / 10) (shown_decimals least k (n / 10)) → IsShown least (suc k) n (cond (more && zero_last) (shown_decimals least k (n / 10)) (zero_padded (suc k) n))
shown_by least k n true true e f below small h = fewer_shown least k n (shown_decimals least k (n / 10)) (grind (arith, nat_tests)) (grind (arith, nat_tests)) h
shown_by least k n true false e f below small h = all_shown least k n below small (inr (grind (arith, nat_tests)))
shown_by least k n false zero_last e f below small h = all_shown least k n below small (inl (grind (arith, nat_tests)))

pub shown_decimals_shown : (least k n : ℕ) → n < 10 ^ k → n < 2 ^ 64 → IsShown least k n (shown_decimals least k n)
unfolding shown_decimals
shown_decimals_shown least zero n below small = record {
  digits = tt;
  short = omega arith;
  enough = omega arith;
  value = omega arith;
  shortest = λ others within says. omega arith;
}
shown_decimals_shown least (suc k) n below small =
    let below_tenth : n / 10 < 10 ^ k = omega (arith, pow_more 10 k) in
    shown_by least k n (ltb least (suc k)) (eqb (n % 10) 0) refl refl below small (shown_decimals_shown least k (n / 10) below_tenth (omega arith))

-- ---- The first eight decimals, padded

pub first_decimals-short : (ds : List ℕ) → length ds ≤ 8 → first_decimals ds ≡ digits_value 10 ds * 10 ^ (8 - length ds)
first_decimals-short ds short =
    let all : 8 ≡ length ds + (8 - length ds) = omega arith in
    ap (λ k. digits_value 10 (take k (ds ++ replicate 8 48))) all
    ∙ ap (digits_value 10) (take-append-add ds (replicate 8 48) (8 - length ds) ∙ ap (λ zeros. ds ++ zeros) (take-replicate (8 - length ds) 8 48 (omega arith)))
    ∙ digits_value-zeros_behind (8 - length ds) ds
