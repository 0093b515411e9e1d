-- What a line says: it is cut at its first blank.
use Rattle.std.proofs.Common.{◌≡◌, ◌≢◌, ◌<◌, ◌^◌, ◌++◌, ◌∷◌, inl, inr, ℕ, zero, suc, List, Option, None, Some, length, arith, Bor, get_or, ap, sym, ◌∙◌}
use Rattle.std.specs.Prelude.{IsUtf8, Result, Ok, Err, codes}
use Rattle.std.specs.Fmt.{decimal}
use Rattle.std.specs.Str.Parse.{IsNumeral, ParsesUnsigned, without_leading_plus}
use Rattle.std.proofs.lemmas.Fmt.{decimal_is_IsNumeral, parse-decimal}
use Rattle.std.proofs.lemmas.Str.Parse.{digit_at}
use Rattle.std.proofs.lemmas.Str.Pattern.{IsSplitOnceResult, split_after, split_parts}
use Rattle.lot_output.specs.Course.{IsToldBy, Says, said_by, said_of}
use Rattle.lot_output.specs.declared.course.Said.{Said}
use Rattle.lot_output.specs.declared.course.Said.TheVariants.{Fault, Restored}

-- ---- A line without a first word.

pub not_text : (line : List ℕ) → (IsUtf8 line → ⊥) → Says line None
not_text line not = record {
  numbered = λ number rest small utf8 is. absurd (not utf8);
  fault = λ rest utf8 is. absurd (not utf8);
  restored = λ utf8 is. absurd (not utf8);
  other = λ found is. cc;
}

-- ---- A line with one.

no_blank : (number : ℕ) → number < 2 ^ 64 → (i : ℕ) → i < length (decimal number)
    → get_or (decimal number) i 0 ≢ 32
no_blank number small i inside =
    let digit = digit_at (decimal number) i (decimal_is_IsNumeral number small).0.1 inside in
    λ is. omega (arith, digit.0, digit.1, is)

no_blank_in_fault : (i : ℕ) → i < length (codes "fault") → get_or (codes "fault") i 0 ≢ 32
no_blank_in_fault zero inside = λ is. omega (arith, is)
no_blank_in_fault (suc zero) inside = λ is. omega (arith, is)
no_blank_in_fault (suc (suc zero)) inside = λ is. omega (arith, is)
no_blank_in_fault (suc (suc (suc zero))) inside = λ is. omega (arith, is)
no_blank_in_fault (suc (suc (suc (suc zero)))) inside = λ is. omega (arith, is)
no_blank_in_fault (suc (suc (suc (suc (suc i))))) inside = absurd (omega (arith, inside))

-- what is said by a word, which is read as a number where it is one
abbrev pub SaidBy : {E : Type 0} → List ℕ → List ℕ → Result ℕ E → Option Said → Type 0
SaidBy word rest (Ok number) said = said ≡ said_of number rest
SaidBy word rest (Err error) said = said ≡ said_by word rest

no_blank_in_book : (i : ℕ) → i < length (codes "book") → get_or (codes "book") i 0 ≢ 32
no_blank_in_book zero inside = λ is. omega (arith, is)
no_blank_in_book (suc zero) inside = λ is. omega (arith, is)
no_blank_in_book (suc (suc zero)) inside = λ is. omega (arith, is)
no_blank_in_book (suc (suc (suc zero))) inside = λ is. omega (arith, is)
no_blank_in_book (suc (suc (suc (suc i)))) inside = absurd (omega (arith, inside))

no_number : IsNumeral 10 (without_leading_plus (codes "fault")) → ⊥
no_number numeral =
    let digit = digit_at (codes "fault") 0 numeral.1 (omega arith) in omega (arith, digit.1)

no_number_of_book : IsNumeral 10 (without_leading_plus (codes "book")) → ⊥
no_number_of_book numeral =
    let digit = digit_at (codes "book") 0 numeral.1 (omega arith) in omega (arith, digit.1)

module _ {E : Type 0} (word rest line : List ℕ) where
  by_number : (number : ℕ) (read : Result ℕ E) (said : Option Said) → read ≡ Ok number → SaidBy word rest read said
      → said ≡ said_of number rest
  by_number number (Ok other) said is so = let same : other ≡ number = cc in so ∙ ap (λ n. said_of n rest) same
  by_number number (Err error) said is so = cc

  by_fault : (read : Result ℕ E) (said : Option Said) → word ≡ codes "fault" → ParsesUnsigned 64 10 word read → SaidBy word rest read said
      → said ≡ Some Fault
  by_fault (Ok number) said is read so = let here = read.0.0 in absurd (no_number (rw is at here))
  by_fault (Err error) said is read so = so ∙ ap (λ w. said_by w rest) is

  by_book : (read : Result ℕ E) (said : Option Said) → word ≡ codes "book" → rest ≡ codes "restored\n" → ParsesUnsigned 64 10 word read
      → SaidBy word rest read said → said ≡ Some Restored
  by_book (Ok number) said is behind read so = let here = read.0.0 in absurd (no_number_of_book (rw is at here))
  by_book (Err error) said is behind read so = so ∙ ap (λ w. said_by w rest) is ∙ ap (said_by (codes "book")) behind

  by_other : (read : Result ℕ E) (said : Option Said) (found : Said) → line ≡ word ++ 32 ∷ rest → ParsesUnsigned 64 10 word read
      → SaidBy word rest read said → said ≡ Some found
      → (w : List ℕ) × (r : List ℕ) × (line ≡ w ++ 32 ∷ r) × IsToldBy w r found
  by_other (Ok number) said found is read so told =
      (word, rest, is, inr (read.0.0, ap (λ n. said_of n rest) (sym read.1) ∙ sym so ∙ told))
  by_other (Err error) said found is read so told = (word, rest, is, inl (sym so ∙ told))

pub told : (E : Type 0) (line : List ℕ) (cut : Option (Bor (List ℕ) × Bor (List ℕ))) (word rest : Bor (List ℕ))
    (read : Result ℕ E) (said : Option Said) → IsSplitOnceResult 32 line cut → cut ≡ Some (word, rest)
    → ParsesUnsigned 64 10 word.now read → SaidBy word.now rest.now read said → Says line said
told E line cut word rest read said halves is parsed so =
    let parts = split_parts 32 line cut halves (omega arith) in
    let here = rw is at parts in
    record {
      numbered = λ number behind small utf8 begins.
          let cuts = split_after 32 line (decimal number) behind cut halves (omega arith) begins (no_blank number small) in
          let both = rw is at cuts in
          by_number word.now rest.now line number read said (parse-decimal 64 number word.now read small small both.0 parsed) so
          ∙ ap (λ r. said_of number r) both.1;
      fault = λ behind utf8 begins.
          let cuts = split_after 32 line (codes "fault") behind cut halves (omega arith) begins no_blank_in_fault in
          let both = rw is at cuts in
          by_fault word.now rest.now line read said both.0 parsed so;
      restored = λ utf8 begins.
          let cuts = split_after 32 line (codes "book") (codes "restored\n") cut halves (omega arith) begins no_blank_in_book in
          let both = rw is at cuts in
          by_book word.now rest.now line read said both.0 both.1 parsed so;
      other = λ found told. by_other word.now rest.now line read said found here.0 parsed so told;
    }

-- ---- A line of one word.

pub one_word : (line : List ℕ) (cut : Option (Bor (List ℕ) × Bor (List ℕ))) → IsSplitOnceResult 32 line cut → cut ≡ None → Says line None
one_word line cut halves is = record {
  numbered = λ number rest small utf8 begins.
      let cuts = split_after 32 line (decimal number) rest cut halves (omega arith) begins (no_blank number small) in
      absurd (rw is at cuts);
  fault = λ rest utf8 begins.
      let cuts = split_after 32 line (codes "fault") rest cut halves (omega arith) begins no_blank_in_fault in
      absurd (rw is at cuts);
  restored = λ utf8 begins.
      let cuts = split_after 32 line (codes "book") (codes "restored\n") cut halves (omega arith) begins no_blank_in_book in
      absurd (rw is at cuts);
  other = λ found told. cc;
}
