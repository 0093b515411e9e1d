-- The token that stands at the front of a text is found there.
use Rattle.std.proofs.Common.{◌≡◌, ◌⊎◌, inl, inr, ℕ, suc, Bool, true, false, cond, List, [], ◌∷◌, ◌++◌, length, take, drop, Option, Some, None, refl, ap, ◌∙◌, sym, subst, arith, eqb, append_assoc}
use Rattle.std.specs.Prelude.{IsFalse, ◌&&◌}
use Rattle.std.specs.List.{list_all}
use Rattle.std.specs.Char.{is_ascii_digit}
use Rattle.std.proofs.lemmas.Bool.{and_parts, and_from, and_left}
use Rattle.std.proofs.lemmas.Bool.Decides.{nat_tests}
use Rattle.std.proofs.lemmas.Option.{none-some}
use Rattle.lot_base.specs.Name.{is_note_byte}
use Rattle.lot_command.specs.Canonical.{escaped}
use Rattle.lot_syntax.specs.declared.token.Mark.{Mark}
use Rattle.lot_syntax.specs.declared.token.Mark.TheVariants as Marks
use Rattle.lot_syntax.specs.Token.{Lexeme, word, number, date, text, mark, is_sign, is_word_start, is_word_byte, begins, begins_with, HasDate, IsDate, EndsMark, mark_bytes, spelled, Stands}
use Rattle.lot_syntax.specs.Cutting.{BeginsNumber, run, date_len, within_len, word_at, number_at, date_or_number, text_by, mark_by, token_at}
use Rattle.lot_syntax.proofs.RunLemmas.{run_found, take_front, drop_front, drop_past}
use Rattle.lot_syntax.proofs.WithinLemmas.{content_found}
use Rattle.lot_syntax.proofs.DateLemmas.{date_at, date_found}
use Rattle.lot_syntax.proofs.NumberLemmas.{number_found, begins_number}

-- ---- By the first byte.

cond_false : {A : Type 0} (b : Bool) (x y : A) → b ≡ false → cond b x y ≡ y
cond_false b x y e = rw e refl

cond_true : {A : Type 0} (b : Bool) (x y : A) → b ≡ true → cond b x y ≡ x
cond_true b x y e = rw e refl

at_word : (b : ℕ) (rest : List ℕ) → is_word_start b ≡ true → token_at (b ∷ rest) ≡ Some (word_at (b ∷ rest))
unfolding token_at
at_word b rest start =
    let e1 : eqb b 34 ≡ false = grind (arith, nat_tests) in
    let e2 : eqb b 123 ≡ false = grind (arith, nat_tests) in
    let e3 : eqb b 125 ≡ false = grind (arith, nat_tests) in
    let e4 : eqb b 64 ≡ false = grind (arith, nat_tests) in
    let e5 : eqb b 44 ≡ false = grind (arith, nat_tests) in
    let e6 : eqb b 42 ≡ false = grind (arith, nat_tests) in
    let e7 : eqb b 33 ≡ false = grind (arith, nat_tests) in
    let e8 : is_ascii_digit b ≡ false = grind (arith, nat_tests) in
    let e9 : is_sign b ≡ false = grind (arith, nat_tests) in
    cond_false (eqb b 34) _ _ e1 ∙ cond_false (eqb b 123) _ _ e2 ∙ cond_false (eqb b 125) _ _ e3 ∙ cond_false (eqb b 64) _ _ e4
    ∙ cond_false (eqb b 44) _ _ e5 ∙ cond_false (eqb b 42) _ _ e6 ∙ cond_false (eqb b 33) _ _ e7 ∙ cond_false (is_ascii_digit b) _ _ e8
    ∙ cond_false (is_sign b && begins is_ascii_digit rest) _ _ (and_left _ _ e9) ∙ cond_true (is_word_start b) _ _ start

at_digit : (b : ℕ) (rest : List ℕ) → is_ascii_digit b ≡ true → token_at (b ∷ rest) ≡ Some (date_or_number (b ∷ rest) (date_len (b ∷ rest)))
unfolding token_at
at_digit b rest digit =
    let e1 : eqb b 34 ≡ false = grind (arith, nat_tests) in
    let e2 : eqb b 123 ≡ false = grind (arith, nat_tests) in
    let e3 : eqb b 125 ≡ false = grind (arith, nat_tests) in
    let e4 : eqb b 64 ≡ false = grind (arith, nat_tests) in
    let e5 : eqb b 44 ≡ false = grind (arith, nat_tests) in
    let e6 : eqb b 42 ≡ false = grind (arith, nat_tests) in
    let e7 : eqb b 33 ≡ false = grind (arith, nat_tests) in
    cond_false (eqb b 34) _ _ e1 ∙ cond_false (eqb b 123) _ _ e2 ∙ cond_false (eqb b 125) _ _ e3 ∙ cond_false (eqb b 64) _ _ e4
    ∙ cond_false (eqb b 44) _ _ e5 ∙ cond_false (eqb b 42) _ _ e6 ∙ cond_false (eqb b 33) _ _ e7 ∙ cond_true (is_ascii_digit b) _ _ digit

at_sign : (b : ℕ) (rest : List ℕ) → is_sign b ≡ true → begins is_ascii_digit rest ≡ true → token_at (b ∷ rest) ≡ Some (number_at (b ∷ rest))
unfolding token_at
at_sign b rest sign digit =
    let e1 : eqb b 34 ≡ false = grind (arith, nat_tests) in
    let e2 : eqb b 123 ≡ false = grind (arith, nat_tests) in
    let e3 : eqb b 125 ≡ false = grind (arith, nat_tests) in
    let e4 : eqb b 64 ≡ false = grind (arith, nat_tests) in
    let e5 : eqb b 44 ≡ false = grind (arith, nat_tests) in
    let e6 : eqb b 42 ≡ false = grind (arith, nat_tests) in
    let e7 : eqb b 33 ≡ false = grind (arith, nat_tests) in
    let e8 : is_ascii_digit b ≡ false = grind (arith, nat_tests) in
    cond_false (eqb b 34) _ _ e1 ∙ cond_false (eqb b 123) _ _ e2 ∙ cond_false (eqb b 125) _ _ e3 ∙ cond_false (eqb b 64) _ _ e4
    ∙ cond_false (eqb b 44) _ _ e5 ∙ cond_false (eqb b 42) _ _ e6 ∙ cond_false (eqb b 33) _ _ e7 ∙ cond_false (is_ascii_digit b) _ _ e8
    ∙ cond_true (is_sign b && begins is_ascii_digit rest) _ _ (and_from _ _ sign digit)

-- ---- Each kind.

-- the front of a text and what stands behind it
abbrev cut_at : (List ℕ → Lexeme) → ℕ → List ℕ → Lexeme × List ℕ
cut_at token n bytes = (token (take n bytes), drop n bytes)

abbrev both : Lexeme → List ℕ → Lexeme × List ℕ
both token rest = (token, rest)

cut_there : (token : List ℕ → Lexeme) (n : ℕ) (front rest : List ℕ) → n ≡ length front
    → cut_at token n (front ++ rest) ≡ both (token front) rest
cut_there token n front rest e =
    ap (λ k. cut_at token k (front ++ rest)) e
    ∙ ap (λ x. both (token x) (drop (length front) (front ++ rest))) (take_front front rest)
    ∙ ap (λ x. both (token front) x) (drop_front front rest)

word_found : (w rest : List ℕ) → begins is_word_start w ≡ true → list_all is_word_byte w ≡ true → begins is_word_byte rest ≡ false
    → token_at (w ++ rest) ≡ Some (word w, rest)
word_found [] rest start all ends = cc
word_found (b ∷ w) rest start all ends =
    at_word b (w ++ rest) start
    ∙ ap Some (cut_there word (run is_word_byte (b ∷ (w ++ rest))) (b ∷ w) rest (run_found is_word_byte (b ∷ w) rest all ends))

-- at a digit a number or a date is looked for
digit_found : (bytes : List ℕ) → begins is_ascii_digit bytes ≡ true → token_at bytes ≡ Some (date_or_number bytes (date_len bytes))
digit_found [] e = cc
digit_found (b ∷ rest) e = at_digit b rest e

no_date : (bytes : List ℕ) (o : Option ℕ) → date_len bytes ≡ o → (HasDate bytes → ⊥) → o ≡ None
no_date bytes None e none = refl
no_date bytes (Some n) e none =
    let d = date_at bytes n e in
    absurd (none (d.front, d.rest, d.is, d.whole))

number_by : (bytes : List ℕ) → BeginsNumber bytes → (HasDate bytes → ⊥) → token_at bytes ≡ Some (number_at bytes)
number_by [] begin none = absurd begin
number_by (b ∷ rest) (inl digit) none =
    at_digit b rest digit ∙ ap (λ o. Some (date_or_number (b ∷ rest) o)) (no_date (b ∷ rest) _ refl none)
number_by (b ∷ rest) (inr (sign, digit)) none = at_sign b rest sign digit

-- ---- Dates, texts and marks.

cond_first : {A : Type 0} (b : Bool) (o : Option A) (x : A) → cond b o None ≡ Some x → b ≡ true
cond_first true o x e = refl
cond_first false o x e = absurd (none-some x e)

date_begins : (bytes : List ℕ) (n : ℕ) → date_len bytes ≡ Some n → begins is_ascii_digit bytes ≡ true
date_begins [] n e = cc
date_begins (a ∷ []) n e = cc
date_begins (a ∷ b ∷ []) n e = cc
date_begins (a ∷ b ∷ c ∷ []) n e = cc
date_begins (a ∷ b ∷ c ∷ d ∷ []) n e = cc
date_begins (a ∷ b ∷ c ∷ d ∷ s ∷ rest) n e =
    let all = and_parts _ _ (cond_first _ _ n e) in
    let four = and_parts _ _ all.0 in
    (and_parts _ _ four.0).0

date_by : (bytes rest : List ℕ) (d : IsDate bytes) → (length d.day ≡ 2) ⊎ IsFalse (begins is_ascii_digit rest)
    → token_at (bytes ++ rest) ≡ Some (date bytes, rest)
date_by bytes rest d all =
    let len = date_found bytes rest d all in
    digit_found (bytes ++ rest) (date_begins (bytes ++ rest) (length bytes) len)
    ∙ ap (λ o. Some (date_or_number (bytes ++ rest) o)) len
    ∙ ap Some (cut_there date (length bytes) bytes rest refl)

text_found : (content rest : List ℕ) → list_all is_note_byte content ≡ true
    → token_at (34 ∷ ((escaped content ++ 34 ∷ []) ++ rest)) ≡ Some (text (escaped content), rest)
unfolding token_at
text_found content rest all =
    let tail : (escaped content ++ 34 ∷ []) ++ rest ≡ escaped content ++ 34 ∷ rest = append_assoc (escaped content) (34 ∷ []) rest in
    let bytes = escaped content ++ 34 ∷ rest in
    let behind : drop (suc (length (escaped content))) bytes ≡ rest = drop_past (escaped content) 34 rest in
    ap (λ x. text_by x (within_len x)) tail
    ∙ ap (text_by bytes) (content_found content rest all)
    ∙ ap (λ x. Some (text x, drop (suc (length (escaped content))) bytes)) (take_front (escaped content) (34 ∷ rest))
    ∙ ap (λ x. Some (text (escaped content), x)) behind

mark_by_found : (single twice : Mark) (b : ℕ) (rest : List ℕ) → begins_with b rest ≡ false → mark_by single twice (b ∷ rest) ≡ (mark single, rest)
mark_by_found single twice b [] e = refl
mark_by_found single twice b (c ∷ rest) e =
    let other : eqb b c ≡ false = grind (arith, nat_tests) in
    rw other refl

mark_token : (m : Mark) (rest : List ℕ) → EndsMark m rest → token_at (mark_bytes m ++ rest) ≡ Some (mark m, rest)
unfolding token_at
mark_token Marks.Comma rest h = refl
mark_token Marks.Star rest h = refl
mark_token Marks.Exclamation rest h = refl
mark_token Marks.At rest h = ap Some (mark_by_found Marks.At Marks.AtAt 64 rest h)
mark_token Marks.AtAt rest h = refl
mark_token Marks.Open rest h = ap Some (mark_by_found Marks.Open Marks.OpenOpen 123 rest h)
mark_token Marks.OpenOpen rest h = refl
mark_token Marks.Close rest h = ap Some (mark_by_found Marks.Close Marks.CloseClose 125 rest h)
mark_token Marks.CloseClose rest h = refl

pub token_found : (token : Lexeme) (rest : List ℕ) → Stands token rest → token_at (spelled token ++ rest) ≡ Some (token, rest)
token_found (word w) rest h = word_found w rest h.0 h.1 h.2
token_found (number n) rest h =
    number_by (n ++ rest) (begins_number n rest h.0) h.1 ∙ ap Some (cut_there number _ n rest (number_found n rest h.0))
token_found (date d) rest (is, all) = date_by d rest is all
token_found (text within) rest (content, all, e) =
    subst (λ (x : List ℕ). token_at (spelled (text x) ++ rest) ≡ Some (text x, rest)) (sym e) (text_found content rest all)
token_found (mark m) rest h = mark_token m rest h
