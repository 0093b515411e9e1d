-- Digits and names of months, as the code finds them.
use Rattle.std.proofs.Common.{◌≡◌, ℕ, ◌+◌, ◌-◌, ◌^◌, ◌<◌, ◌≤◌, min, Bool, true, false, not, cond, eqb, List, [], ◌∷◌, ◌++◌, length, get_or, drop, drop-cons, take, map, Some, None, refl, ap, ◌∙◌, sym, arith, add-one}
use Rattle.std.specs.Prelude.{◌↔◌, IsTrue}
use Rattle.std.specs.Char.{to_ascii_lowercase}
use Rattle.std.specs.Str.Parse.{digits_value}
use Rattle.std.proofs.lemmas.Bool.{and_parts, eqb-true, false_from_ne_true}
use Rattle.std.specs.List.{starts_with}
use Rattle.std.proofs.lemmas.Bool.Decides.{nat_tests}
use Rattle.std.proofs.Math.Nat.{pow-le-pow_right}
use denote.Ref.{Bor}
use Rattle.lot_base.specs.Text.{same_text}
use Rattle.lot_base.proofs.TextLemmas.{one_text, same_text-itself}
use Rattle.lot_field.specs.Days.{begins_with_letter, begins_with_word, in_digits, month_among}
use Rattle.lot_field.specs.Field.{behind}
use Rattle.lot_field.specs.Numbers.{are_digits, digits_of}
use Rattle.lot_field.proofs.NumberLemmas.{digits-themselves, value-below}

-- ---- Digits.

pub written-is : (digits : List ℕ) (count w : ℕ) → are_digits digits ≡ true → length digits ≡ count → count ≤ 4
    → w ≡ min (digits_value 10 (digits_of digits)) (2 ^ 64 - 1) → (w ≡ digits_value 10 digits) × (w < 10 ^ count) × (w < 10 ^ 4)
written-is digits count w all long few is =
    let same : digits_value 10 (digits_of digits) ≡ digits_value 10 digits = ap (digits_value 10) (digits-themselves digits all) in
    let below : digits_value 10 digits < 10 ^ count = rw (← long) (value-below digits all) in
    let some : 0 < 10 = omega arith in
    let most : 10 ^ count ≤ 10 ^ 4 = pow-le-pow_right some few in
    let value : w ≡ digits_value 10 digits = omega (arith, is, same, below, most) in
    (value, omega (arith, value, below), omega (arith, value, below, most))

pub digits-found : (text digits rest : List ℕ) (count w : ℕ) → digits ≡ take count text → rest ≡ drop count text → length digits ≡ count
    → are_digits digits ≡ true → w ≡ digits_value 10 digits → in_digits count text ≡ Some (w, rest)
digits-found text digits rest count w front back long all value =
    let whole : eqb (length (take count text)) count ≡ true =
    let same : length (take count text) ≡ count = ap (λ (t : List ℕ). length t) (sym front) ∙ long in grind (arith, nat_tests) in
    let good : are_digits (take count text) ≡ true = ap are_digits (sym front) ∙ all in
    rw (whole, good, value, front, back) refl

-- ---- Beginnings.

begins-is : (word text : List ℕ) → starts_with eqb text word ≡ true → text ≡ word ++ drop (length word) text
begins-is [] text e = refl
begins-is (b ∷ word) [] e = cc
begins-is (b ∷ word) (c ∷ text) e =
    let both = and_parts (eqb b c) (starts_with eqb text word) e in
    let same : c ≡ b = sym (eqb-true b c both.0) in
    ap (λ (x : ℕ). x ∷ text) same ∙ ap (λ (t : List ℕ). b ∷ t) (begins-is word text both.1)

begins-with : (word rest : List ℕ) → starts_with eqb (word ++ rest) word ≡ true
begins-with [] rest = refl
begins-with (b ∷ word) rest =
    let same : eqb b b ≡ true = grind (arith, nat_tests) in
    let more = begins-with word rest in
    rw (same, more) refl

-- ---- Names.

among-next : (names : List (Bor (List ℕ))) (i month : ℕ) (one : Bor (List ℕ)) (name : List ℕ) → i < length names
    → month_among (map (λ (n : Bor (List ℕ)). n.now) (drop i names)) month name
    ≡ cond (same_text (map to_ascii_lowercase (get_or names i one).now) (map to_ascii_lowercase name)) (Some month)
    (month_among (map (λ (n : Bor (List ℕ)). n.now) (drop (i + 1) names)) (month + 1) name)
among-next names i month one name within =
    ap (λ (ns : List (Bor (List ℕ))). month_among (map (λ (n : Bor (List ℕ)). n.now) ns) month name) (drop-cons names i one within)
    ∙ ap (λ (k : ℕ). cond (same_text (map to_ascii_lowercase (get_or names i one).now) (map to_ascii_lowercase name)) (Some month)
    (month_among (map (λ (n : Bor (List ℕ)). n.now) (drop k names)) (month + 1) name)) (sym (add-one i))

pub among-here : (names : List (Bor (List ℕ))) (i month : ℕ) (one : Bor (List ℕ)) (bytes name : List ℕ) (same : Bool) → i < length names
    → bytes ≡ (get_or names i one).now → (IsTrue same ↔ (map to_ascii_lowercase bytes ≡ map to_ascii_lowercase name)) → same ≡ true
    → month_among (map (λ (n : Bor (List ℕ)). n.now) (drop i names)) month name ≡ Some month
among-here names i month one bytes name same within read test is =
    let equal : map to_ascii_lowercase (get_or names i one).now ≡ map to_ascii_lowercase name =
    ap (λ (t : List ℕ). map to_ascii_lowercase t) (sym read) ∙ test.0 is in
    let yes : same_text (map to_ascii_lowercase (get_or names i one).now) (map to_ascii_lowercase name) ≡ true =
    rw equal (same_text-itself (map to_ascii_lowercase name)) in
    among-next names i month one name within ∙ rw yes refl

pub among-later : (names : List (Bor (List ℕ))) (i month : ℕ) (one : Bor (List ℕ)) (bytes name : List ℕ) (same : Bool) → i < length names
    → bytes ≡ (get_or names i one).now → (IsTrue same ↔ (map to_ascii_lowercase bytes ≡ map to_ascii_lowercase name)) → same ≡ false
    → month_among (map (λ (n : Bor (List ℕ)). n.now) (drop i names)) month name
    ≡ month_among (map (λ (n : Bor (List ℕ)). n.now) (drop (i + 1) names)) (month + 1) name
among-later names i month one bytes name same within read test is =
    let no : same_text (map to_ascii_lowercase (get_or names i one).now) (map to_ascii_lowercase name) ≡ false =
    false_from_ne_true _ (λ yes. let true_too : same ≡ true = test.1 (ap (λ (t : List ℕ). map to_ascii_lowercase t) read ∙ one_text _ _ yes) in cc) in
    among-next names i month one name within ∙ rw no refl

-- ---- A word at the start of a text.

module _ (word text first : List ℕ) (same : Bool) (front : first ≡ take (length word) text)
    (test : IsTrue same ↔ (map to_ascii_lowercase first ≡ map to_ascii_lowercase word)) where
  pub word-there : (rest : List ℕ) (letter : Bool) → rest ≡ drop (length word) text → letter ≡ begins_with_letter rest → same ≡ true
      → not letter ≡ begins_with_word word text
  word-there rest letter back is same_too =
      let equal : map to_ascii_lowercase (take (length word) text) ≡ map to_ascii_lowercase word =
      ap (λ (t : List ℕ). map to_ascii_lowercase t) (sym front) ∙ test.0 same_too in
      let there : same_text (map to_ascii_lowercase word) (map to_ascii_lowercase (take (length word) text)) ≡ true =
      rw equal (same_text-itself (map to_ascii_lowercase word)) in
      let behind : begins_with_letter (drop (length word) text) ≡ letter = ap begins_with_letter (sym back) ∙ sym is in
      rw (there, behind) refl

  pub word-not : same ≡ false → same ≡ begins_with_word word text
  word-not differ =
      let other : same_text (map to_ascii_lowercase word) (map to_ascii_lowercase (take (length word) text)) ≡ false =
      false_from_ne_true _ (λ yes. let true_too : same ≡ true = test.1 (ap (λ (t : List ℕ). map to_ascii_lowercase t) front ∙ sym (one_text _ _ yes)) in cc) in
      rw (differ, other) refl

-- ---- What stands behind a word.

pub behind-is : (word text rest : List ℕ) → behind word text ≡ Some rest → text ≡ word ++ rest
behind-is word text rest e = go (starts_with eqb text word) refl
  where
    go : (b : Bool) → starts_with eqb text word ≡ b → text ≡ word ++ rest
    go true f = let is = rw f at e in begins-is word text f ∙ ap (λ (t : List ℕ). word ++ t) cc
    go false f = let is = rw f at e in cc

pub behind-not : (word text rest : List ℕ) → behind word text ≡ None → text ≡ word ++ rest → ⊥
behind-not word text rest none is =
    let yes : starts_with eqb text word ≡ true = ap (λ (t : List ℕ). starts_with eqb t word) is ∙ begins-with word rest in
    let some : behind word text ≡ Some (drop (length word) text) = rw yes refl in
    cc
