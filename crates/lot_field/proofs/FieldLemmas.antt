-- Texts without the blanks at their ends.
use Rattle.std.proofs.Common.{◌≡◌, ℕ, suc, ◌+◌, ◌-◌, ◌<◌, ◌≤◌, Bool, true, false, cond, List, [], ◌∷◌, ◌++◌, length, get_or, drop, take, take_all, refl, ap, ◌∙◌, subst, sym, arith}
use Rattle.std.specs.Prelude.{zero, ◌&&◌, IsUtf8, nat_lt}
use Rattle.std.specs.Str.{IsCharBoundary}
use Rattle.std.specs.List.{list_all}
use Rattle.std.proofs.lemmas.List.{take_more}
use Rattle.std.proofs.lemmas.Str.{IsCharBoundary-after_ascii, IsCharBoundary-before_ascii, IsCharBoundary-end, IsCharBoundary-start}
use Rattle.std.proofs.lemmas.Bool.Decides.{nat_tests}
use Rattle.lot_field.specs.Field.{is_blank, without_leading, without_trailing}

-- ---- At the end.

all_but_last : (texts : List ℕ) (last : ℕ) → is_blank last ≡ true → list_all is_blank (texts ++ last ∷ []) ≡ list_all is_blank texts
all_but_last [] last blank = rw blank refl
all_but_last (b ∷ texts) last blank = ap (λ t. is_blank b && t) (all_but_last texts last blank)

pub trailing-blank : (front : List ℕ) (last : ℕ) → is_blank last ≡ true → without_trailing (front ++ last ∷ []) ≡ without_trailing front
trailing-blank [] last blank = rw blank refl
trailing-blank (b ∷ front) last blank =
    let all = all_but_last front last blank in
    let more = trailing-blank front last blank in
    rw (all, more) refl

not_all : (texts : List ℕ) (last : ℕ) → is_blank last ≡ false → list_all is_blank (texts ++ last ∷ []) ≡ false
not_all [] last other = rw other refl
not_all (b ∷ texts) last other = let more = not_all texts last other in rw more (neither (is_blank b))
  where
    neither : (t : Bool) → (t && false) ≡ false
    neither true = refl
    neither false = refl

pub trailing-other : (front : List ℕ) (last : ℕ) → is_blank last ≡ false → without_trailing (front ++ last ∷ []) ≡ front ++ last ∷ []
trailing-other [] last other = rw other refl
trailing-other (b ∷ front) last other =
    let all = not_all front last other in
    let more = trailing-other front last other in
    rw (all, more) (keep (is_blank b))
  where
    keep : (t : Bool) → cond (t && false) [] (b ∷ (front ++ last ∷ [])) ≡ b ∷ (front ++ last ∷ [])
    keep true = refl
    keep false = refl

-- a text is its bytes but the last, and the last
with_last : (text : List ℕ) → 0 < length text → take (length text - 1) text ++ get_or text (length text - 1) 0 ∷ [] ≡ text
with_last text some =
    let within : length text - 1 < length text = omega arith in
    let whole : length text - 1 + 1 ≡ length text = omega arith in
    sym (take_more text (length text - 1) 0 within) ∙ ap (λ n. take n text) whole ∙ take_all (length text) text (omega arith)

pub trailing-step : (text : List ℕ) → 0 < length text → is_blank (get_or text (length text - 1) 0) ≡ true
    → without_trailing (take (length text - 1) text) ≡ without_trailing text
trailing-step text some blank =
    sym (trailing-blank (take (length text - 1) text) (get_or text (length text - 1) 0) blank) ∙ ap without_trailing (with_last text some)

pub trailing-stop : (text : List ℕ) → 0 < length text → is_blank (get_or text (length text - 1) 0) ≡ false
    → text ≡ without_trailing text
trailing-stop text some other =
    sym (with_last text some)
    ∙ sym (trailing-other (take (length text - 1) text) (get_or text (length text - 1) 0) other)
    ∙ ap without_trailing (with_last text some)

-- ---- Where a text may be cut.

blank_ascii : (b : ℕ) → is_blank b ≡ true → b < 128
blank_ascii b blank = grind (arith, nat_tests)

record IsLeading (text : List ℕ) (n : ℕ) : Type 0 where
  rest : drop n text ≡ without_leading text
  count : n + length (without_leading text) ≡ length text
  ascii : 0 < n → get_or text (n - 1) 0 < 128

abbrev HasLeading : List ℕ → Type 0
HasLeading text = (n : ℕ) × IsLeading text n

one_more : (b : ℕ) (rest : List ℕ) (blank : Bool) → is_blank b ≡ blank → HasLeading rest → HasLeading (b ∷ rest)
one_more b rest true e (n, h) = (
  suc n,
  record {
    rest = rw e h.rest;
    count = rw e (omega (arith, h.count));
    ascii = λ some. at n h.ascii;
  },
)
  where
    at : (m : ℕ) → (0 < m → get_or rest (m - 1) 0 < 128) → get_or (b ∷ rest) (suc m - 1) 0 < 128
    at zero h = let first : 0 ≡ 1 - 1 = omega arith in subst (λ (k : ℕ). get_or (b ∷ rest) k 0 < 128) first (blank_ascii b e)
    at (suc k) h =
        let next : suc (suc k - 1) ≡ suc (suc k) - 1 = omega arith in
        subst (λ (k : ℕ). get_or (b ∷ rest) k 0 < 128) next (h (omega arith))
one_more b rest false e h = (0, record { rest = rw e refl; count = rw e (omega arith); ascii = λ some. absurd (omega arith) })

leading : (text : List ℕ) → HasLeading text
leading [] = (0, record { rest = refl; count = omega arith; ascii = λ some. absurd (omega arith) })
leading (b ∷ rest) = one_more b rest (is_blank b) refl (leading rest)

pub leading-boundary : (text inner : List ℕ) → IsUtf8 text → inner ≡ without_leading text → IsCharBoundary text (length text - length inner)
leading-boundary text inner utf8 is = go (leading text)
  where
    go : HasLeading text → IsCharBoundary text (length text - length inner)
    go (zero, h) =
        let none : 0 ≡ length text - length inner = omega (arith, h.count, ap (λ (t : List ℕ). length t) is) in
        subst (IsCharBoundary text) none (IsCharBoundary-start text utf8)
    go (suc n, h) =
        let place : n + 1 ≡ length text - length inner = omega (arith, h.count, ap (λ (t : List ℕ). length t) is) in
        let within : n < length text = omega (arith, h.count) in
        let before : suc n - 1 ≡ n = omega arith in
        let ascii : get_or text n 0 < 128 = subst (λ (k : ℕ). get_or text k 0 < 128) before (h.ascii (omega arith)) in
        subst (IsCharBoundary text) place (IsCharBoundary-after_ascii text n utf8 within ascii)

pub leading-rest : (text : List ℕ) → drop (length text - length (without_leading text)) text ≡ without_leading text
leading-rest text =
    let (n, h) = leading text in
    let place : length text - length (without_leading text) ≡ n = omega (arith, h.count) in
    ap (λ (k : ℕ). drop k text) place ∙ h.rest

record IsTrailing (text : List ℕ) : Type 0 where
  front : take (length (without_trailing text)) text ≡ without_trailing text
  fits : length (without_trailing text) ≤ length text
  ascii : length (without_trailing text) < length text → get_or text (length (without_trailing text)) 0 < 128

trailing_more : (b : ℕ) (rest : List ℕ) (blank all : Bool) → is_blank b ≡ blank → list_all is_blank rest ≡ all → IsTrailing rest → IsTrailing (b ∷ rest)
trailing_more b rest true true e f h = record { front = rw (e, f) refl; fits = rw (e, f) (omega arith); ascii = rw (e, f) (λ less. blank_ascii b e) }
trailing_more b rest true false e f h = record { front = rw (e, f) (ap (λ t. b ∷ t) h.front); fits = rw (e, f) (omega (arith, h.fits)); ascii = rw (e, f) (λ less. h.ascii (omega (arith, less))) }
trailing_more b rest false all e f h = record { front = rw e (ap (λ t. b ∷ t) h.front); fits = rw e (omega (arith, h.fits)); ascii = rw e (λ less. h.ascii (omega (arith, less))) }

trailing : (text : List ℕ) → IsTrailing text
trailing [] = record { front = refl; fits = omega arith; ascii = λ less. absurd (omega arith) }
trailing (b ∷ rest) = trailing_more b rest (is_blank b) (list_all is_blank rest) refl refl (trailing rest)

pub trailing-boundary : (text inner : List ℕ) → inner ≡ without_trailing text → IsCharBoundary text (length inner)
trailing-boundary text inner is = subst (λ (t : List ℕ). IsCharBoundary text (length t)) (sym is) (go (nat_lt (length (without_trailing text)) (length text)) refl)
  where
    go : (less : Bool) → nat_lt (length (without_trailing text)) (length text) ≡ less → IsCharBoundary text (length (without_trailing text))
    go true e = IsCharBoundary-before_ascii text (length (without_trailing text)) (grind (arith, nat_tests)) ((trailing text).ascii (grind (arith, nat_tests)))
    go false e =
        let same : length text ≡ length (without_trailing text) = let fits = (trailing text).fits in grind (arith, nat_tests) in
        subst (IsCharBoundary text) same (IsCharBoundary-end text)

pub trailing-front : (text : List ℕ) → take (length (without_trailing text)) text ≡ without_trailing text
trailing-front text = (trailing text).front
