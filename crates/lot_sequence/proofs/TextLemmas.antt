-- Full keys say a day, a number and a text in one way only, and no digest says one.
use Rattle.std.specs.Prelude.{◌≡◌, ◌≢◌, ℕ, zero, suc, ◌/◌, ◌<◌, ◌^◌, ◌==◌, true, not, decimal, List, [], ◌∷◌, ◌++◌, length, take, ℤ}
use Rattle.std.specs.List.{AllByRecursion, list_all}
use Rattle.std.specs.Option.{unwrap_or}
use Rattle.std.specs.Str.Parse.{AllDigits}
use Rattle.std.proofs.Common.{arith, ap, get_or, refl, sym, ◌∙◌}
use Rattle.std.proofs.lemmas.Bool.{and_parts, true≢false}
use Rattle.std.proofs.lemmas.Fmt.{decimal_injective, decimal_is_IsNumeral}
use Rattle.std.proofs.lemmas.Str.Parse.{digit_from_value}
use Rattle.hex.specs.Hex.{encode_with, lower_digits}
use Rattle.lot_base.specs.Day.{IsDayNumber, day_text, named_day}
use Rattle.lot_base.proofs.ReadBackLemmas.{named_day-day_text}
use Rattle.lot_sequence.specs.Key.{full_key, short_digest}
use Rattle.sha2.specs.Sha256.{sha256}

-- ---- Where two texts are cut.

-- parts of one length
seam : (a b c d : List ℕ) → length a ≡ length b → a ++ c ≡ b ++ d → (a ≡ b) × (c ≡ d)
seam [] [] c d long is = (refl, is)
seam [] (y ∷ b) c d long is = absurd (omega arith)
seam (x ∷ a) [] c d long is = absurd (omega arith)
seam (x ∷ a) (y ∷ b) c d long is =
    let first : x ≡ y = cc in
    let rest = seam a b c d (omega arith) cc in
    ((λ i. first i ∷ rest.0 i), rest.1)

-- parts up to the first blank
cut : (a b c d : List ℕ) → AllByRecursion (λ byte. byte ≢ 32) a → AllByRecursion (λ byte. byte ≢ 32) b → a ++ 32 ∷ c ≡ b ++ 32 ∷ d → (a ≡ b) × (c ≡ d)
cut [] [] c d first second is = (refl, cc)
cut [] (y ∷ b) c d first second is = let blank : y ≡ 32 = cc in absurd (second.0 blank)
cut (x ∷ a) [] c d first second is = let blank : x ≡ 32 = cc in absurd (first.0 blank)
cut (x ∷ a) (y ∷ b) c d first second is =
    let head : x ≡ y = cc in
    let rest = cut a b c d first.1 second.1 cc in
    ((λ i. head i ∷ rest.0 i), rest.1)

no_blank : (digits : List ℕ) → AllDigits 10 digits → AllByRecursion (λ byte. byte ≢ 32) digits
no_blank [] all = tt
no_blank (digit ∷ digits) all =
    let range = digit_from_value digit all.0 in
    ((λ blank. omega arith), no_blank digits all.1)

-- ---- A full key.

day_length : (day : ℤ) → length (day_text day) ≡ 10
unfolding day_text
day_length day = refl

dash : (day : ℤ) (rest : List ℕ) → get_or (day_text day ++ rest) 4 0 ≡ 45
unfolding day_text
dash day rest = refl

same_day : (day other : ℤ) → IsDayNumber day → IsDayNumber other → day_text day ≡ day_text other → day ≡ other
same_day day other good fine same =
    ap (λ o. unwrap_or o day) (sym (named_day-day_text day good) ∙ ap named_day same ∙ named_day-day_text other fine)

-- a full key says its parts
pub record SameParts (day : ℤ) (number : ℕ) (text : List ℕ) (other : ℤ) (second : ℕ) (words : List ℕ) : Type 0 where
  pub one_day : day ≡ other
  pub one_number : number ≡ second
  pub one_text : text ≡ words

pub one_full_key : (day : ℤ) (number : ℕ) (text : List ℕ) (other : ℤ) (second : ℕ) (words : List ℕ) → IsDayNumber day → IsDayNumber other → number < 2 ^ 64 → second < 2 ^ 64
    → full_key day number text ≡ full_key other second words → SameParts day number text other second words
one_full_key day number text other second words good fine small low same =
    let long : length (day_text day) ≡ length (day_text other) = day_length day ∙ sym (day_length other) in
    let days = seam (day_text day) (day_text other) (32 ∷ (decimal number ++ 32 ∷ text)) (32 ∷ (decimal second ++ 32 ∷ words)) long same in
    let behind : decimal number ++ 32 ∷ text ≡ decimal second ++ 32 ∷ words = cc in
    let numbers = cut (decimal number) (decimal second) text words
    (no_blank (decimal number) (decimal_is_IsNumeral number small).0.1) (no_blank (decimal second) (decimal_is_IsNumeral second low).0.1) behind in
    record {
      one_day = same_day day other good fine days.0;
      one_number = decimal_injective number second small low numbers.0;
      one_text = numbers.1;
    }

-- ---- No digest is a full key.

no_dash : (bytes : List ℕ) → list_all (λ byte. not (byte == 45)) bytes ≡ true → (place : ℕ) → get_or bytes place 0 ≡ 45 → ⊥
no_dash [] all place is = omega arith
no_dash (byte ∷ bytes) all zero is =
    let parts = and_parts (not (byte == 45)) (list_all (λ other. not (other == 45)) bytes) all in
    true≢false (sym parts.0 ∙ ap (λ (b : ℕ). not (b == 45)) is)
no_dash (byte ∷ bytes) all (suc place) is =
    no_dash bytes (and_parts (not (byte == 45)) (list_all (λ other. not (other == 45)) bytes) all).1 place is

fifth_digit : (bytes : List ℕ) → get_or (take 32 (encode_with lower_digits bytes)) 4 0 ≡ 45 → ⊥
unfolding encode_with
fifth_digit [] is = omega arith
fifth_digit (a ∷ []) is = omega arith
fifth_digit (a ∷ b ∷ []) is = omega arith
fifth_digit (a ∷ b ∷ c ∷ bytes) is = no_dash lower_digits refl (c / 16) is

pub no_digest : (day : ℤ) (number : ℕ) (text other : List ℕ) → full_key day number text ≡ short_digest other → ⊥
no_digest day number text other is =
    fifth_digit (sha256 other) (ap (λ bytes. get_or bytes 4 0) (sym is) ∙ dash day (32 ∷ (decimal number ++ 32 ∷ text)))
