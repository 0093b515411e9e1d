-- Digits are grouped character by character, since no comma stands within one.
use Rattle.std.specs.Prelude.{◌==◌, codes}
use Rattle.std.proofs.Common.{◌≡◌, ◌≢◌, ℕ, suc, ◌+◌, ◌/◌, ◌%◌, ◌<◌, ◌≤◌, Bool, true, false, cond, ltb, List, [], ◌∷◌, ◌++◌, length, get_or, drop, ap, refl, sym, ◌∙◌, append-nil, append_assoc, add-one, drop-cons, inl, inr, arith}
use Rattle.std.specs.Char.{encode_utf8}
use Rattle.std.specs.List.{after_first, before_first, position_or_len}
use Rattle.std.specs.Str.{IsUtf8}
use Rattle.std.proofs.lemmas.Bool.{cases_Bool, eqb-true}
use Rattle.std.proofs.lemmas.Bool.Decides.{nat_tests}
use Rattle.std.proofs.lemmas.List.{drop_all, take_all}
use Rattle.std.proofs.lemmas.List.Sums.{passes_at_first}
use Rattle.std.proofs.lemmas.Str.{IsCharBoundary-start}
use Rattle.lot_html.specs.Number.{comma_at, comma_before, goes_on, grouped, grouped_digits, grouped_number}

goes : (byte : ℕ) → goes_on (128 + byte % 64) ≡ true
goes byte = grind (arith, nat_tests)

-- a character whose bytes these are is grouped as one
abbrev IsOne : List ℕ → List ℕ → Type 0
IsOne rest bytes = grouped_digits (bytes ++ rest) ≡ bytes ++ (comma_before rest ++ grouped_digits rest)

-- no comma stands before a byte that goes on
behind : (rest : List ℕ) (first byte : ℕ) (bytes : List ℕ) → IsOne rest ((128 + byte % 64) ∷ bytes)
    → IsOne rest (first ∷ ((128 + byte % 64) ∷ bytes))
behind rest first byte bytes is = rw (goes byte) (ap (λ (more : List ℕ). first ∷ more) is)

either : (rest : List ℕ) (b : Bool) (xs ys : List ℕ) → IsOne rest xs → IsOne rest ys → IsOne rest (cond b xs ys)
either rest true xs ys x y = x
either rest false xs ys x y = y

pub grouped_character : (c : ℕ) (rest : List ℕ)
    → grouped_digits (encode_utf8 c ++ rest) ≡ encode_utf8 c ++ (comma_before rest ++ grouped_digits rest)
unfolding encode_utf8
grouped_character c rest =
    let last : IsOne rest ((128 + c % 64) ∷ []) = refl in
    let third : IsOne rest ((128 + c / 64 % 64) ∷ (128 + c % 64) ∷ []) = behind rest (128 + c / 64 % 64) c [] last in
    let second : IsOne rest ((128 + c / 4096 % 64) ∷ (128 + c / 64 % 64) ∷ (128 + c % 64) ∷ []) =
    behind rest (128 + c / 4096 % 64) (c / 64) ((128 + c % 64) ∷ []) third in
    either rest (ltb c 128) _ _ refl
    (either rest (ltb c 2048) _ _ (behind rest (192 + c / 64) c [] last)
    (either rest (ltb c 65536) _ _ (behind rest (224 + c / 4096) (c / 64) ((128 + c % 64) ∷ []) third)
    (behind rest (240 + c / 262144) (c / 4096) ((128 + c / 64 % 64) ∷ (128 + c % 64) ∷ []) second)))

-- text that is left begins with a character, so that only its length decides
not_within : (first : ℕ) (rest : List ℕ) → IsUtf8 (first ∷ rest) → goes_on first ≡ false
not_within first rest text =
    let start = (IsCharBoundary-start (first ∷ rest) text).1 in
    let high : 128 ≤ first → 192 ≤ first = start (omega arith) in
    grind (arith, nat_tests)

pub comma_by_length : (rest : List ℕ) → IsUtf8 rest → comma_before rest ≡ comma_at (length rest)
comma_by_length [] text = refl
comma_by_length (first ∷ rest) text = rw (not_within first rest text) refl

-- a character is appended, with the comma behind it
pub appended_more : (whole before text pushed bytes rest left : List ℕ) (count : ℕ) → before ++ grouped_digits rest ≡ whole
    → grouped_digits rest ≡ bytes ++ (comma_before left ++ grouped_digits left) → comma_before left ≡ comma_at count
    → text ≡ before ++ bytes → pushed ≡ text ++ comma_at count → pushed ++ grouped_digits left ≡ whole
appended_more whole before text pushed bytes rest left count all one comma was is =
    ap (λ (t : List ℕ). t ++ grouped_digits left) (is ∙ ap (λ (t : List ℕ). t ++ comma_at count) was)
    ∙ append_assoc (before ++ bytes) (comma_at count) (grouped_digits left)
    ∙ append_assoc before bytes (comma_at count ++ grouped_digits left)
    ∙ ap (λ (t : List ℕ). before ++ (bytes ++ (t ++ grouped_digits left))) (sym comma)
    ∙ ap (λ (t : List ℕ). before ++ t) (sym one)
    ∙ all

-- ---- numbers

point : (digits : List ℕ) (first : ℕ) → first ≡ position_or_len (λ (byte : ℕ). byte == 46) digits → first < length digits
    → drop first digits ≡ 46 ∷ drop (first + 1) digits
point digits first is within =
    let passes : (get_or digits first 0 == 46) ≡ true =
    rw (is) (passes_at_first (λ (byte : ℕ). byte == 46) digits 0 (rw (is) at within)) in
    rw (add-one, drop-cons digits first 0) (ap (λ (byte : ℕ). byte ∷ drop (suc first) digits) (eqb-true (get_or digits first 0) 46 passes))

pub with_point : (digits : List ℕ) → position_or_len (λ (byte : ℕ). byte == 46) digits < length digits
    → grouped_number digits ≡ grouped_digits (before_first (λ (byte : ℕ). byte == 46) digits)
    ++ (codes "." ++ after_first (λ (byte : ℕ). byte == 46) digits)
with_point digits within =
    ap (λ (rest : List ℕ). grouped_digits (before_first (λ (byte : ℕ). byte == 46) digits) ++ rest)
    (point digits (position_or_len (λ (byte : ℕ). byte == 46) digits) refl within)

pub without_point : (digits : List ℕ) → position_or_len (λ (byte : ℕ). byte == 46) digits ≡ length digits
    → grouped_number digits ≡ grouped_digits digits
without_point digits all = rw (all, take_all (length digits) digits (omega arith), drop_all (length digits) digits (omega arith)) (append-nil (grouped_digits digits))

pub not_below : (number : List ℕ) → ((rest : List ℕ) → number ≢ 45 ∷ rest) → grouped number ≡ grouped_number number
not_below [] not = refl
not_below (byte ∷ rest) not = elim (cases_Bool (byte == 45)) [
  | inl is ↦ absurd (not rest (ap (λ (b : ℕ). b ∷ rest) (eqb-true byte 45 is)))
  | inr isnt ↦ rw (isnt) refl
]

-- three texts behind one another
pub three_behind : (text opened inside first second third : List ℕ) → opened ≡ text ++ first → inside ≡ opened ++ second
    → inside ++ third ≡ text ++ (first ++ (second ++ third))
three_behind text opened inside first second third one two =
    ap (λ (before : List ℕ). before ++ third) (two ∙ ap (λ (before : List ℕ). before ++ second) one)
    ∙ append_assoc (text ++ first) second third
    ∙ append_assoc text first (second ++ third)

-- the parts that a point stands between
pub with_parts : (digits whole decimals : List ℕ) → position_or_len (λ (byte : ℕ). byte == 46) digits < length digits
    → whole ≡ before_first (λ (byte : ℕ). byte == 46) digits → decimals ≡ after_first (λ (byte : ℕ). byte == 46) digits
    → grouped_number digits ≡ grouped_digits whole ++ (codes "." ++ decimals)
with_parts digits whole decimals within before after =
    with_point digits within
    ∙ ap (λ (w : List ℕ). grouped_digits w ++ (codes "." ++ after_first (λ (byte : ℕ). byte == 46) digits)) (sym before)
    ∙ ap (λ (d : List ℕ). grouped_digits whole ++ (codes "." ++ d)) (sym after)
