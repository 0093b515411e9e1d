-- Beginnings and braces of texts, and numbers in digits, as the code finds them.
use Rattle.std.proofs.Common.{◌≡◌, ◌≢◌, ℕ, ◌+◌, ◌^◌, ◌<◌, ◌≤◌, Bool, true, false, List, [], ◌∷◌, length, get_or, take, Option, Some, None, Result, Ok, Err, refl, ap, sym, ◌∙◌, arith, rules}
use Rattle.std.specs.Prelude.{◌==◌, nat_le, nat_lt, IfSome, MatchOption}
use Rattle.std.specs.Char.{is_ascii_digit}
use Rattle.std.specs.List.{before_first, list_all, position_or_len}
use Rattle.std.specs.Str.{IsCharBoundary}
use Rattle.std.specs.Str.Parse.{ParsesUnsigned, digits_value}
use Rattle.std.specs.Str.Pattern.{FindsChar, FindsTextPrefix, StripsPrefix}
use Rattle.std.proofs.lemmas.Bool.{eqb-true}
use Rattle.std.proofs.lemmas.Bool.Decides.{nat_tests}
use Rattle.std.proofs.lemmas.List.{length-append}
use Rattle.std.proofs.lemmas.List.Sums.{position_or_len_is}
use Rattle.std.proofs.lemmas.Str.Parse.{IsNumeralModel, numerals_by_value, parse_digits}
use Rattle.std.proofs.lemmas.Str.Pattern.{find_char}
use denote.Ref.{Bor}
use Rattle.lot_field.specs.Field.{behind}
use Rattle.lot_field.proofs.DayLemmas.{behind-is}
use Rattle.lot_field.proofs.TestLemmas.{prefix-none, prefix-some}
use Rattle.lot_profile_text.specs.Accounts.{is_brace}
use Rattle.lot_profile_text.specs.Conditions.{counted}

-- ---- Beginnings.

abbrev pub IsStripped : List ℕ → List ℕ → Option (Bor (List ℕ)) → Type 0
IsStripped word text r = MatchOption r (FindsTextPrefix word text None) (λ x. StripsPrefix (FindsTextPrefix word) text x.now)

pub behind-value : (word text : List ℕ) (r : Option (Bor (List ℕ))) → IsStripped word text r
    → MatchOption r (behind word text ≡ None) (λ rest. behind word text ≡ Some rest.now)
behind-value word text None h = prefix-none word text h
behind-value word text (Some x) h = prefix-some word text x.now h

pub behind-length : (word text : List ℕ) (r : Option (Bor (List ℕ))) → IsStripped word text r
    → IfSome r (λ rest. length word + length rest.now ≡ length text)
behind-length word text None h = tt
behind-length word text (Some x) h =
    let whole = behind-is word text x.now (prefix-some word text x.now h) in
    rw whole (sym (length-append word x.now))

-- ---- Braces.

no-brace : (b : ℕ) → b ≢ 123 → is_brace b ≡ false
no-brace b other = go (b == 123) refl
  where
    go : (same : Bool) → (b == 123) ≡ same → same ≡ false
    go true e = absurd (other (eqb-true b 123 e))
    go false e = refl

abbrev pub IsFound : List ℕ → Option ℕ → Type 0
IsFound text r =
    MatchOption r (FindsChar 123 text None)
    (λ i. (j : ℕ) × FindsChar 123 text (Some (i, j)) × (i ≤ j) × IsCharBoundary text i × IsCharBoundary text j)

pub brace-some : (text : List ℕ) (at : ℕ) → IsFound text (Some at) → take at text ≡ before_first is_brace text
brace-some text at h =
    let found = find_char 123 text (Some at) h (omega arith) in
    let here : is_brace (get_or text at 0) ≡ true = rw found.1 refl in
    let place : position_or_len is_brace text ≡ at =
    position_or_len_is is_brace text at 0 (omega (arith, found.0)) (λ k less. no-brace (get_or text k 0) (found.2 k less)) (λ within. here) in
    ap (λ (n : ℕ). take n text) (sym place)

pub brace-none : (text : List ℕ) → IsFound text None → take (length text) text ≡ before_first is_brace text
brace-none text h =
    let none = find_char 123 text None h (omega arith) in
    let place : position_or_len is_brace text ≡ length text =
    position_or_len_is is_brace text (length text) 0 (omega arith) (λ k less. no-brace (get_or text k 0) (none k less)) (λ within. absurd (omega (arith, within))) in
    ap (λ (n : ℕ). take n text) (sym place)

-- ---- Numbers of columns.

own : IsNumeralModel (λ ds. list_all is_ascii_digit ds ≡ true) (digits_value 10)
own = numerals_by_value _ (search rules)

-- the number that digits write
pub counted-ok : {E : Type 0} (digits : List ℕ) (r : Result ℕ E) (n : ℕ) → r ≡ Ok n → ParsesUnsigned 64 10 digits r
    → list_all is_ascii_digit digits ≡ true → n ≡ digits_value 10 digits
counted-ok {E = E} digits (Ok m) n is h all =
    let same : m ≡ n = cc is in
    sym same ∙ (parse_digits own {E = E} 64 digits (Ok m) h all).1
counted-ok digits (Err e) n is h all = absurd (cc is)

-- digits that write no number are no number of a column
pub counted-none : {E : Type 0} (digits : List ℕ) (r : Result ℕ E) (e : E) → r ≡ Err e → ParsesUnsigned 64 10 digits r
    → list_all is_ascii_digit digits ≡ true → counted (digits_value 10 digits) ≡ None
counted-none digits (Ok m) e is h all = absurd (cc is)
counted-none [] (Err f) e is h all = refl
counted-none (d ∷ ds) (Err f) e is h all =
    let never = parse_digits own 64 (d ∷ ds) (Err f) h all in
    go (nat_lt (digits_value 10 (d ∷ ds)) (2 ^ 64)) refl (λ less. never (omega arith, less))
  where
    both : (some : Bool) → nat_le 1 (digits_value 10 (d ∷ ds)) ≡ some → nat_lt (digits_value 10 (d ∷ ds)) (2 ^ 64) ≡ false
        → counted (digits_value 10 (d ∷ ds)) ≡ None
    both true s e = rw (s, e) refl
    both false s e = rw s refl

    go : (less : Bool) → nat_lt (digits_value 10 (d ∷ ds)) (2 ^ 64) ≡ less → (digits_value 10 (d ∷ ds) < 2 ^ 64 → ⊥)
        → counted (digits_value 10 (d ∷ ds)) ≡ None
    go true e never = absurd (never (grind (arith, nat_tests)))
    go false e never = both (nat_le 1 (digits_value 10 (d ∷ ds))) refl e
