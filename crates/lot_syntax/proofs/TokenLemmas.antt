-- The token at the front of a text is the one that stands there.
use Rattle.std.proofs.Common.{◌≡◌, inl, inr, ℕ, zero, suc, Bool, true, false, cond, List, [], ◌∷◌, ◌++◌, length, take, drop, Option, Some, None, refl, ap, ◌∙◌, sym, subst, arith, eqb, append_assoc}
use Rattle.std.specs.Prelude.{◌&&◌}
use Rattle.std.specs.Char.{is_ascii_digit}
use Rattle.std.proofs.lemmas.Bool.{and_parts, and_from, eqb-true}
use Rattle.std.proofs.lemmas.Bool.Decides.{nat_tests}
use Rattle.std.proofs.lemmas.Option.{same_Some, none-some}
use Rattle.std.proofs.lemmas.List.{append-nil}
use Rattle.lot_command.specs.Canonical.{escaped}
use Rattle.lot_syntax.specs.declared.token.Mark.{Mark}
use Rattle.lot_syntax.specs.declared.token.Mark.TheVariants as Marks
use Rattle.lot_syntax.specs.Token.{Lexeme, word, number, date, text, mark, is_sign, is_word_start, is_word_byte, begins, begins_with, HasDate, EndsMark, mark_bytes, spelled, Stands}
use Rattle.lot_syntax.specs.Cutting.{BeginsNumber, run, number_len, date_len, within_len, word_at, number_at, date_or_number, text_by, mark_by, token_at}
use Rattle.lot_syntax.proofs.RunLemmas.{HasRun, has_run, take_front, drop_front}
use Rattle.lot_syntax.proofs.WithinLemmas.{within_at}
use Rattle.lot_syntax.proofs.DateLemmas.{date_at, date_some}
use Rattle.lot_syntax.proofs.NumberLemmas.{number_at_front}

-- the token stands at the front, and that is behind it
abbrev pub StandsAt : List ℕ → Lexeme × List ℕ → Type 0
StandsAt bytes found = Stands found.0 found.1 × (bytes ≡ spelled found.0 ++ found.1)

-- ---- What is found stands there.

start_is_byte : (b : ℕ) → is_word_start b ≡ true → is_word_byte b ≡ true
start_is_byte b e = grind (arith, nat_tests)

word_of : (b : ℕ) (rest : List ℕ) (h : HasRun is_word_byte rest) → is_word_start b ≡ true → run is_word_byte (b ∷ rest) ≡ suc (length h.front)
unfolding run
word_of b rest h start =
    let passes = start_is_byte b start in
    rw passes (ap suc h.len)

word_stands : (b : ℕ) (rest : List ℕ) → is_word_start b ≡ true → StandsAt (b ∷ rest) (word_at (b ∷ rest))
word_stands b rest start =
    let h = has_run is_word_byte rest in
    let len = word_of b rest h start in
    let whole : b ∷ rest ≡ (b ∷ h.front) ++ h.rest = ap (λ x. b ∷ x) h.whole in
    let front : take (run is_word_byte (b ∷ rest)) (b ∷ rest) ≡ b ∷ h.front =
    ap (λ n. take n (b ∷ rest)) len ∙ ap (take (length (b ∷ h.front))) whole ∙ take_front (b ∷ h.front) h.rest in
    let behind : drop (run is_word_byte (b ∷ rest)) (b ∷ rest) ≡ h.rest =
    ap (λ n. drop n (b ∷ rest)) len ∙ ap (drop (length (b ∷ h.front))) whole ∙ drop_front (b ∷ h.front) h.rest in
    subst (λ (x : List ℕ). StandsAt (b ∷ rest) (word x, drop (run is_word_byte (b ∷ rest)) (b ∷ rest))) (sym front)
    (subst (λ (x : List ℕ). StandsAt (b ∷ rest) (word (b ∷ h.front), x)) (sym behind)
    ((start, and_from _ _ (start_is_byte b start) h.all, h.ends), whole))

number_stands : (bytes : List ℕ) → BeginsNumber bytes → (HasDate bytes → ⊥) → StandsAt bytes (number_at bytes)
number_stands bytes begin no_date =
    let h = number_at_front bytes begin in
    let front : take (number_len bytes) bytes ≡ h.front =
    ap (λ n. take n bytes) h.len ∙ ap (take (length h.front)) h.whole ∙ take_front h.front h.rest in
    let behind : drop (number_len bytes) bytes ≡ h.rest =
    ap (λ n. drop n bytes) h.len ∙ ap (drop (length h.front)) h.whole ∙ drop_front h.front h.rest in
    subst (λ (x : List ℕ). StandsAt bytes (number x, drop (number_len bytes) bytes)) (sym front)
    (subst (λ (x : List ℕ). StandsAt bytes (number h.front, x)) (sym behind)
    ((h.is, λ d. no_date (subst HasDate (sym h.whole) d)), h.whole))

date_stands : (bytes : List ℕ) (n : ℕ) → date_len bytes ≡ Some n → StandsAt bytes (date (take n bytes), drop n bytes)
date_stands bytes n e =
    let h = date_at bytes n e in
    let front : take n bytes ≡ h.front = ap (λ k. take k bytes) h.len ∙ ap (take (length h.front)) h.whole ∙ take_front h.front h.rest in
    let behind : drop n bytes ≡ h.rest = ap (λ k. drop k bytes) h.len ∙ ap (drop (length h.front)) h.whole ∙ drop_front h.front h.rest in
    subst (λ (x : List ℕ). StandsAt bytes (date x, drop n bytes)) (sym front)
    (subst (λ (x : List ℕ). StandsAt bytes (date h.front, x)) (sym behind) ((h.is, h.all), h.whole))

date_or_number_stands : (b : ℕ) (rest : List ℕ) (o : Option ℕ) → is_ascii_digit b ≡ true → date_len (b ∷ rest) ≡ o
    → StandsAt (b ∷ rest) (date_or_number (b ∷ rest) o)
date_or_number_stands b rest (Some n) digit e = date_stands (b ∷ rest) n e
date_or_number_stands b rest None digit e = number_stands (b ∷ rest) (inl digit) (λ d. date_some (b ∷ rest) d e)

-- a sign begins no date
none_before : (b : ℕ) (rest : List ℕ) → is_ascii_digit b ≡ false → date_len (b ∷ rest) ≡ None
none_before b [] other = refl
none_before b (c ∷ []) other = refl
none_before b (c ∷ d ∷ []) other = refl
none_before b (c ∷ d ∷ e ∷ []) other = refl
none_before b (c ∷ d ∷ e ∷ f ∷ rest) other = rw other refl

date_digit : (b : ℕ) (rest : List ℕ) → is_ascii_digit b ≡ false → HasDate (b ∷ rest) → ⊥
date_digit b rest other h = date_some (b ∷ rest) h (none_before b rest other)

sign_no_digit : (b : ℕ) → is_sign b ≡ true → is_ascii_digit b ≡ false
sign_no_digit b e = grind (arith, nat_tests)

signed_stands : (b : ℕ) (rest : List ℕ) → is_sign b ≡ true → begins is_ascii_digit rest ≡ true → StandsAt (b ∷ rest) (number_at (b ∷ rest))
signed_stands b rest sign digit = number_stands (b ∷ rest) (inr (sign, digit)) (date_digit b rest (sign_no_digit b sign))

-- a text and what stands behind its last quote
after_quote : (n : ℕ) (bytes rest : List ℕ) → drop n bytes ≡ 34 ∷ rest → drop (suc n) bytes ≡ rest
after_quote zero [] rest e = cc
after_quote zero (b ∷ bytes) rest e = cc
after_quote (suc n) [] rest e = cc
after_quote (suc n) (b ∷ bytes) rest e = after_quote n bytes rest e

text_stands : (rest : List ℕ) (n : ℕ) → within_len rest ≡ Some n → StandsAt (34 ∷ rest) (text (take n rest), drop (suc n) rest)
text_stands rest n e =
    let h = within_at rest n e in
    let front : take n rest ≡ escaped h.content =
    ap (λ k. take k rest) h.len ∙ ap (take (length (escaped h.content))) h.whole ∙ take_front (escaped h.content) (34 ∷ h.rest) in
    let quote : drop n rest ≡ 34 ∷ h.rest =
    ap (λ k. drop k rest) h.len ∙ ap (drop (length (escaped h.content))) h.whole ∙ drop_front (escaped h.content) (34 ∷ h.rest) in
    let behind : drop (suc n) rest ≡ h.rest = after_quote n rest h.rest quote in
    let whole : 34 ∷ rest ≡ spelled (text (escaped h.content)) ++ h.rest =
    ap (λ x. 34 ∷ x) (h.whole ∙ sym (append_assoc (escaped h.content) (34 ∷ []) h.rest)) in
    subst (λ (x : List ℕ). StandsAt (34 ∷ rest) (text x, drop (suc n) rest)) (sym front)
    (subst (λ (x : List ℕ). StandsAt (34 ∷ rest) (text (escaped h.content), x)) (sym behind) ((h.content, h.all, refl), whole))

text_by_stands : (rest : List ℕ) (found : Lexeme × List ℕ) (o : Option ℕ) → within_len rest ≡ o → text_by rest o ≡ Some found
    → StandsAt (34 ∷ rest) found
text_by_stands rest found None e f = absurd (none-some found f)
text_by_stands rest found (Some n) e f = subst (StandsAt (34 ∷ rest)) (same_Some _ found f) (text_stands rest n e)

-- a mark that another of the same byte makes longer
record IsPair (single twice : Mark) (b : ℕ) : Type 0 where
  one : mark_bytes single ≡ b ∷ []
  two : mark_bytes twice ≡ b ∷ b ∷ []
  ends : (rest : List ℕ) → begins_with b rest ≡ false → EndsMark single rest
  alone : (rest : List ℕ) → EndsMark twice rest

eqb_other : (b c : ℕ) → eqb b c ≡ false → eqb c b ≡ false
eqb_other b c e = grind (arith, nat_tests)

mark_next : (single twice : Mark) (b c : ℕ) (rest : List ℕ) (same : Bool) → IsPair single twice b → eqb b c ≡ same
    → StandsAt (b ∷ c ∷ rest) (cond same (mark twice, rest) (mark single, c ∷ rest))
mark_next single twice b c rest true p e =
    (p.alone rest, ap (λ x. b ∷ x ∷ rest) (sym (eqb-true b c e)) ∙ ap (λ x. x ++ rest) (sym p.two))
mark_next single twice b c rest false p e =
    (p.ends (c ∷ rest) (eqb_other b c e), ap (λ x. x ++ c ∷ rest) (sym p.one))

mark_stands : (single twice : Mark) (b : ℕ) (rest : List ℕ) → IsPair single twice b → StandsAt (b ∷ rest) (mark_by single twice (b ∷ rest))
mark_stands single twice b [] p = (p.ends [] refl, sym p.one ∙ sym (append-nil (mark_bytes single)))
mark_stands single twice b (c ∷ rest) p = mark_next single twice b c rest (eqb b c) p refl

open_pair : IsPair Marks.Open Marks.OpenOpen 123
open_pair = record { one = refl; two = refl; ends = λ rest e. e; alone = λ rest. tt }

close_pair : IsPair Marks.Close Marks.CloseClose 125
close_pair = record { one = refl; two = refl; ends = λ rest e. e; alone = λ rest. tt }

at_pair : IsPair Marks.At Marks.AtAt 64
at_pair = record { one = refl; two = refl; ends = λ rest e. e; alone = λ rest. tt }

-- ---- By the first byte.

-- what a test of the first byte chooses
choose : {A : Type 0} (P : A → Type 0) (b : Bool) (x y : Option A) (z : A) → cond b x y ≡ Some z
    → (b ≡ true → x ≡ Some z → P z) → (b ≡ false → y ≡ Some z → P z) → P z
choose P true x y z e yes' no' = yes' refl e
choose P false x y z e yes' no' = no' refl e

first_is : (b k : ℕ) (rest : List ℕ) (found : Lexeme × List ℕ) → eqb b k ≡ true → StandsAt (k ∷ rest) found → StandsAt (b ∷ rest) found
first_is b k rest found e h = subst (λ (x : ℕ). StandsAt (x ∷ rest) found) (sym (eqb-true b k e)) h

is_found : (bytes : List ℕ) (x found : Lexeme × List ℕ) → Some x ≡ Some found → StandsAt bytes x → StandsAt bytes found
is_found bytes x found e h = subst (StandsAt bytes) (same_Some x found e) h

rest_stands : (b : ℕ) (rest : List ℕ) (found : Lexeme × List ℕ)
    → cond (is_ascii_digit b) (Some (date_or_number (b ∷ rest) (date_len (b ∷ rest))))
    (cond (is_sign b && begins is_ascii_digit rest) (Some (number_at (b ∷ rest)))
    (cond (is_word_start b) (Some (word_at (b ∷ rest))) None)) ≡ Some found → StandsAt (b ∷ rest) found
rest_stands b rest found e =
    choose (StandsAt (b ∷ rest)) (is_ascii_digit b) _ _ found e
    (λ digit f. is_found (b ∷ rest) _ found f (date_or_number_stands b rest _ digit refl))
    (λ n1 f1. choose (StandsAt (b ∷ rest)) (is_sign b && begins is_ascii_digit rest) _ _ found f1
    (λ sign f. let parts = and_parts (is_sign b) (begins is_ascii_digit rest) sign in
    is_found (b ∷ rest) _ found f (signed_stands b rest parts.0 parts.1))
    (λ n2 f2. choose (StandsAt (b ∷ rest)) (is_word_start b) _ _ found f2
    (λ start f. is_found (b ∷ rest) _ found f (word_stands b rest start))
    (λ n3 f3. absurd (none-some found f3))))

mark_found : (m : Mark) (b k : ℕ) (rest : List ℕ) (found : Lexeme × List ℕ) → mark_bytes m ≡ k ∷ [] → EndsMark m rest → eqb b k ≡ true
    → Some (mark m, rest) ≡ Some found → StandsAt (b ∷ rest) found
mark_found m b k rest found spelling ends first e =
    is_found (b ∷ rest) (mark m, rest) found e (first_is b k rest (mark m, rest) first (ends, ap (λ x. x ++ rest) (sym spelling)))

pub token_stands : (bytes : List ℕ) (found : Lexeme × List ℕ) → token_at bytes ≡ Some found → StandsAt bytes found
unfolding token_at
token_stands [] found e = absurd (none-some found e)
token_stands (b ∷ rest) found e =
    let P = StandsAt (b ∷ rest) in
    choose P (eqb b 34) _ _ found e (λ is f. first_is b 34 rest found is (text_by_stands rest found _ refl f))
    (λ n1 e1. choose P (eqb b 123) _ _ found e1
    (λ is f. is_found (b ∷ rest) _ found f (subst (λ (x : ℕ). StandsAt (x ∷ rest) (mark_by Marks.Open Marks.OpenOpen (x ∷ rest))) (sym (eqb-true b 123 is)) (mark_stands Marks.Open Marks.OpenOpen 123 rest open_pair)))
    (λ n2 e2. choose P (eqb b 125) _ _ found e2
    (λ is f. is_found (b ∷ rest) _ found f (subst (λ (x : ℕ). StandsAt (x ∷ rest) (mark_by Marks.Close Marks.CloseClose (x ∷ rest))) (sym (eqb-true b 125 is)) (mark_stands Marks.Close Marks.CloseClose 125 rest close_pair)))
    (λ n3 e3. choose P (eqb b 64) _ _ found e3
    (λ is f. is_found (b ∷ rest) _ found f (subst (λ (x : ℕ). StandsAt (x ∷ rest) (mark_by Marks.At Marks.AtAt (x ∷ rest))) (sym (eqb-true b 64 is)) (mark_stands Marks.At Marks.AtAt 64 rest at_pair)))
    (λ n4 e4. choose P (eqb b 44) _ _ found e4 (λ is f. mark_found Marks.Comma b 44 rest found refl tt is f)
    (λ n5 e5. choose P (eqb b 42) _ _ found e5 (λ is f. mark_found Marks.Star b 42 rest found refl tt is f)
    (λ n6 e6. choose P (eqb b 33) _ _ found e6 (λ is f. mark_found Marks.Exclamation b 33 rest found refl tt is f)
    (λ n7 e7. rest_stands b rest found e7)))))))
