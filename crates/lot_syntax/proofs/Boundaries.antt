-- Where a token ends a text may be cut.
use Rattle.std.proofs.Common.{◌≡◌, inl, inr, ℕ, ◌<◌, Bool, true, false, List, [], ◌∷◌, ◌++◌, length, drop, get_or, Some, refl, ap, ◌∙◌, sym, subst, arith, append_assoc, length-append}
use Rattle.std.specs.Prelude.{IsUtf8}
use Rattle.std.specs.Str.{IsCharBoundary}
use Rattle.std.specs.List.{list_all}
use Rattle.std.specs.Char.{is_ascii, is_ascii_digit}
use Rattle.std.proofs.lemmas.Bool.{and_parts, and_from, ltb-true}
use Rattle.std.proofs.lemmas.Bool.Decides.{nat_tests}
use Rattle.std.proofs.lemmas.Str.{IsUtf8-drop, IsCharBoundary-after_ascii, IsCharBoundary-before_ascii, IsCharBoundary-at_seam, IsCharBoundary-end}
use Rattle.lot_base.specs.Day.{is_separator}
use Rattle.lot_syntax.specs.declared.token.Mark.{Mark}
use Rattle.lot_syntax.specs.declared.token.Mark.TheVariants as Marks
use Rattle.lot_syntax.proofs.CutLemmas.{next_some}
use Rattle.lot_syntax.specs.Token.{Lexeme, word, number, date, text, mark, mark_bytes, spelled, Stands, is_blank, is_sign, is_word_byte, begins, AreDigits, IsDate, IsWhole, IsSignPart, IsFraction, IsNumber}
use Rattle.lot_syntax.specs.Cutting.{next_of, BeginsNumber, run, number_len, date_len, within_len}
use Rattle.lot_syntax.proofs.RunLemmas.{has_run, drop_front}
use Rattle.lot_syntax.proofs.DateLemmas.{date_at}
use Rattle.lot_syntax.proofs.NumberLemmas.{number_at_front}
use Rattle.lot_syntax.proofs.WithinLemmas.{within_at}
use Rattle.lot_command.specs.Canonical.{escaped}

utf8_tail : (b : ℕ) (rest : List ℕ) → is_ascii b ≡ true → IsUtf8 (b ∷ rest) → IsUtf8 rest
utf8_tail b rest ascii u =
    IsUtf8-drop (b ∷ rest) 1 u (IsCharBoundary-after_ascii (b ∷ rest) 0 u (omega arith) (ltb-true b 128 ascii))

-- what stands behind ASCII is a text
behind_ascii : (front rest : List ℕ) → list_all is_ascii front ≡ true → IsUtf8 (front ++ rest) → IsUtf8 rest
behind_ascii [] rest all u = u
behind_ascii (b ∷ front) rest all u =
    let parts = and_parts (is_ascii b) (list_all is_ascii front) all in
    behind_ascii front rest parts.1 (utf8_tail b (front ++ rest) parts.0 u)

seam : (bytes front rest : List ℕ) → bytes ≡ front ++ rest → list_all is_ascii front ≡ true → IsUtf8 bytes → IsCharBoundary bytes (length front)
seam bytes front rest whole all u =
    IsCharBoundary-at_seam bytes front rest whole (behind_ascii front rest all (subst IsUtf8 whole u))

all_ascii : (p : ℕ → Bool) (xs : List ℕ) → ((b : ℕ) → p b ≡ true → is_ascii b ≡ true) → list_all p xs ≡ true → list_all is_ascii xs ≡ true
all_ascii p [] each all = refl
all_ascii p (b ∷ xs) each all =
    let parts = and_parts (p b) (list_all p xs) all in
    and_from _ _ (each b parts.0) (all_ascii p xs each parts.1)

both_ascii : (xs ys : List ℕ) → list_all is_ascii xs ≡ true → list_all is_ascii ys ≡ true → list_all is_ascii (xs ++ ys) ≡ true
both_ascii [] ys all more = more
both_ascii (b ∷ xs) ys all more =
    let parts = and_parts (is_ascii b) (list_all is_ascii xs) all in
    and_from _ _ parts.0 (both_ascii xs ys parts.1 more)

blank_ascii : (b : ℕ) → is_blank b ≡ true → is_ascii b ≡ true
blank_ascii b e = grind (arith, nat_tests)

digit_ascii : (b : ℕ) → is_ascii_digit b ≡ true → is_ascii b ≡ true
digit_ascii b e = grind (arith, nat_tests)

separator_ascii : (b : ℕ) → is_separator b ≡ true → is_ascii b ≡ true
separator_ascii b e = grind (arith, nat_tests)

sign_ascii : (b : ℕ) → is_sign b ≡ true → is_ascii b ≡ true
sign_ascii b e = grind (arith, nat_tests)

pub blanks_boundary : (bytes : List ℕ) → IsUtf8 bytes → IsCharBoundary bytes (run is_blank bytes)
blanks_boundary bytes u =
    let h = has_run is_blank bytes in
    subst (IsCharBoundary bytes) (sym h.len) (seam bytes h.front h.rest h.whole (all_ascii is_blank h.front blank_ascii h.all) u)

-- ---- Words end before ASCII.

other_ascii : (b : ℕ) → is_word_byte b ≡ false → b < 128
other_ascii b e = grind (arith, nat_tests)

at_front : (front : List ℕ) (b : ℕ) (rest : List ℕ) → get_or (front ++ b ∷ rest) (length front) 0 ≡ b
at_front [] b rest = refl
at_front (c ∷ front) b rest = at_front front b rest

word_seam : (bytes front rest : List ℕ) → bytes ≡ front ++ rest → begins is_word_byte rest ≡ false → IsCharBoundary bytes (length front)
word_seam bytes front [] whole ends =
    subst (IsCharBoundary bytes) (ap length whole ∙ length-append front [] ∙ omega arith) (IsCharBoundary-end bytes)
word_seam bytes front (b ∷ rest) whole ends =
    let behind : drop (length front) bytes ≡ b ∷ rest = ap (drop (length front)) whole ∙ drop_front front (b ∷ rest) in
    let place : length front < length bytes = omega (arith, ap length whole, length-append front (b ∷ rest)) in
    let at : get_or bytes (length front) 0 ≡ b = ap (λ (xs : List ℕ). get_or xs (length front) 0) whole ∙ at_front front b rest in
    IsCharBoundary-before_ascii bytes (length front) place (omega (arith, at, other_ascii b ends))

pub word_boundary : (bytes : List ℕ) → IsCharBoundary bytes (run is_word_byte bytes)
word_boundary bytes =
    let h = has_run is_word_byte bytes in
    subst (IsCharBoundary bytes) (sym h.len) (word_seam bytes h.front h.rest h.whole h.ends)

-- ---- Numbers, dates and texts are ASCII, or end with it.

whole_ascii : (digits : List ℕ) → IsWhole digits → list_all is_ascii digits ≡ true
whole_ascii [] h = absurd h
whole_ascii (b ∷ []) h = and_from _ _ (digit_ascii b h) refl
whole_ascii (b ∷ c ∷ digits) (digit, inl more) = and_from _ _ (digit_ascii b digit) (whole_ascii (c ∷ digits) more)
whole_ascii (b ∷ c ∷ digits) (digit, inr (comma, more)) =
    and_from _ _ (digit_ascii b digit) (and_from _ _ (ap is_ascii comma) (whole_ascii digits more))

sign_part_ascii : (sign : List ℕ) → IsSignPart sign → list_all is_ascii sign ≡ true
sign_part_ascii [] h = refl
sign_part_ascii (b ∷ []) h = and_from _ _ (sign_ascii b h) refl
sign_part_ascii (b ∷ c ∷ more) h = absurd h

fraction_ascii : (fraction : List ℕ) → IsFraction fraction → list_all is_ascii fraction ≡ true
fraction_ascii [] h = refl
fraction_ascii (b ∷ digits) h = and_from _ _ (ap is_ascii h.0) (all_ascii is_ascii_digit digits digit_ascii h.1)

number_ascii : (bytes rest : List ℕ) → IsNumber bytes rest → list_all is_ascii bytes ≡ true
number_ascii bytes rest n =
    ap (list_all is_ascii) n.whole
    ∙ both_ascii n.sign (n.digits ++ n.fraction) (sign_part_ascii n.sign n.is_sign)
    (both_ascii n.digits n.fraction (whole_ascii n.digits n.is_digits) (fraction_ascii n.fraction n.is_fraction))

pub number_boundary : (bytes : List ℕ) → BeginsNumber bytes → IsUtf8 bytes → IsCharBoundary bytes (number_len bytes)
number_boundary bytes begin u =
    let h = number_at_front bytes begin in
    subst (IsCharBoundary bytes) (sym h.len) (seam bytes h.front h.rest h.whole (number_ascii h.front h.rest h.is) u)

digits_ascii : (least most : ℕ) (part : List ℕ) → AreDigits least most part → list_all is_ascii part ≡ true
digits_ascii least most part h = all_ascii is_ascii_digit part digit_ascii h.digits

date_ascii : (bytes : List ℕ) → IsDate bytes → list_all is_ascii bytes ≡ true
date_ascii bytes d =
    ap (list_all is_ascii) d.whole
    ∙ both_ascii d.year (d.first ∷ (d.month ++ d.second ∷ d.day)) (digits_ascii 4 4 d.year d.is_year)
    (and_from _ _ (separator_ascii d.first d.is_first)
    (both_ascii d.month (d.second ∷ d.day) (digits_ascii 1 2 d.month d.is_month)
    (and_from _ _ (separator_ascii d.second d.is_second) (digits_ascii 1 2 d.day d.is_day))))

pub date_boundary : (bytes : List ℕ) (n : ℕ) → date_len bytes ≡ Some n → IsUtf8 bytes → IsCharBoundary bytes n
date_boundary bytes n e u =
    let h = date_at bytes n e in
    subst (IsCharBoundary bytes) (sym h.len) (seam bytes h.front h.rest h.whole (date_ascii h.front h.is) u)

pub within_boundary : (bytes : List ℕ) (n : ℕ) → within_len bytes ≡ Some n → IsCharBoundary bytes n
within_boundary bytes n e =
    let h = within_at bytes n e in
    subst (IsCharBoundary bytes) (sym h.len) (word_seam bytes (escaped h.content) (34 ∷ h.rest) h.whole refl)

-- the quote stands behind what is within
pub quote_behind : (bytes : List ℕ) (n : ℕ) → within_len bytes ≡ Some n → begins is_ascii (drop n bytes) ≡ true
quote_behind bytes n e =
    let h = within_at bytes n e in
    ap (λ k. begins is_ascii (drop k bytes)) h.len ∙ ap (λ xs. begins is_ascii (drop (length (escaped h.content)) xs)) h.whole
    ∙ ap (begins is_ascii) (drop_front (escaped h.content) (34 ∷ h.rest))

-- one byte of ASCII
pub first_boundary : (bytes : List ℕ) → begins is_ascii bytes ≡ true → IsUtf8 bytes → IsCharBoundary bytes 1
first_boundary [] ascii u = cc
first_boundary (b ∷ rest) ascii u = seam (b ∷ rest) (b ∷ []) rest refl (and_from _ _ ascii refl) u

-- ---- What stands behind a token is text.

mark_ascii : (m : Mark) → list_all is_ascii (mark_bytes m) ≡ true
mark_ascii Marks.Comma = refl
mark_ascii Marks.Star = refl
mark_ascii Marks.Exclamation = refl
mark_ascii Marks.At = refl
mark_ascii Marks.AtAt = refl
mark_ascii Marks.Open = refl
mark_ascii Marks.OpenOpen = refl
mark_ascii Marks.Close = refl
mark_ascii Marks.CloseClose = refl

behind_word : (front rest : List ℕ) → begins is_word_byte rest ≡ false → IsUtf8 (front ++ rest) → IsUtf8 rest
behind_word front rest ends u =
    subst IsUtf8 (drop_front front rest)
    (IsUtf8-drop (front ++ rest) (length front) u (word_seam (front ++ rest) front rest refl ends))

behind_text : (within rest : List ℕ) → IsUtf8 (34 ∷ ((within ++ 34 ∷ []) ++ rest)) → IsUtf8 rest
behind_text within rest u =
    let bytes : (within ++ 34 ∷ []) ++ rest ≡ within ++ 34 ∷ rest = append_assoc within (34 ∷ []) rest in
    utf8_tail 34 rest refl (behind_word within (34 ∷ rest) refl (subst IsUtf8 bytes (utf8_tail 34 _ refl u)))

behind_token : (token : Lexeme) (rest : List ℕ) → Stands token rest → IsUtf8 (spelled token ++ rest) → IsUtf8 rest
behind_token (word w) rest h u = behind_word w rest h.2 u
behind_token (number n) rest h u = behind_ascii n rest (number_ascii n rest h.0) u
behind_token (date d) rest h u = behind_ascii d rest (date_ascii d h.0) u
behind_token (text within) rest h u = behind_text within rest u
behind_token (mark m) rest h u = behind_ascii (mark_bytes m) rest (mark_ascii m) u

pub next_utf8 : (line : List ℕ) (found : Lexeme × List ℕ) → next_of line ≡ Some (Some found) → IsUtf8 line → IsUtf8 found.1
next_utf8 line found e u =
    let n = next_some line found e in
    behind_token found.0 found.1 n.stands (behind_ascii n.blanks _ (all_ascii is_blank n.blanks blank_ascii n.all) (subst IsUtf8 n.whole u))
