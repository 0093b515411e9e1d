-- A text begins as its escape does.
use Rattle.std.proofs.Common.{◌≡◌, ◌≢◌, ◌⊎◌, inl, inr, ℕ, ◌+◌, ◌<◌, ◌≤◌, Bool, true, false, eqb, List, [], ◌∷◌, ◌++◌, length, refl, sym, ap, ◌∙◌, arith, append_assoc, length-append}
use Rattle.std.specs.Prelude.{IsTrue, nat_le, not, ◌||◌}
use Rattle.std.specs.List.{list_all}
use Rattle.std.specs.Char.{encode_utf8}
use Rattle.std.proofs.lemmas.Bool.{and_parts, false≢true, leb-true}
use Rattle.std.proofs.lemmas.Bool.Decides.{nat_tests}
use Rattle.std.proofs.lemmas.Grind.{flat_map-append}
use Rattle.std.proofs.lemmas.List.{append-nil}
use Rattle.std.proofs.lemmas.Str.{char_from_byte, length-encode, len_utf8_bounds}
use Rattle.lot_base.specs.Name.{is_note, is_note_byte, longest_note}
use Rattle.lot_command.specs.Canonical.{escaped, escaped_byte}
use Rattle.lot_read.specs.Checked.{is_plain, text_of}
use Rattle.lot_read.specs.Meaning.{Quotes}

-- ---- One byte.

-- a byte stands behind a backslash, or as it is
pub data Written (byte : ℕ) : Type 0 where
  behind : (byte ≡ 34) ⊎ (byte ≡ 92) → escaped_byte byte ≡ 92 ∷ byte ∷ [] → Written byte
  plain : byte ≢ 34 → byte ≢ 92 → escaped_byte byte ≡ byte ∷ [] → Written byte

behind_is : (byte : ℕ) → (byte ≡ 34) ⊎ (byte ≡ 92) → escaped_byte byte ≡ 92 ∷ byte ∷ []
behind_is byte special = grind (arith, nat_tests)

plain_is : (byte : ℕ) → byte ≢ 34 → byte ≢ 92 → escaped_byte byte ≡ byte ∷ []
plain_is byte quote backslash = grind (arith, nat_tests)

byte_is : (a b : ℕ) → (a ≡ b) ⊎ (a ≢ b)
byte_is a b = grind arith

special_or_not : (byte : ℕ) → ((byte ≡ 34) ⊎ (byte ≡ 92)) ⊎ ((byte ≢ 34) × (byte ≢ 92))
special_or_not byte = elim (byte_is byte 34) [ inl q ↦ inl (inl q) | inr q ↦ elim (byte_is byte 92) [ inl k ↦ inl (inr k) | inr k ↦ inr (q, k) ] ]

pub written : (byte : ℕ) → Written byte
written byte = elim (special_or_not byte) [ inl s ↦ behind s (behind_is byte s) | inr p ↦ plain p.0 p.1 (plain_is byte p.0 p.1) ]

same_first : (x y : ℕ) (a b : List ℕ) → Written x → Written y → escaped_byte x ++ a ≡ escaped_byte y ++ b → (x ≡ y) × (a ≡ b)
same_first x y a b (behind s e) (behind t f) g =
    let h : 92 ∷ x ∷ a ≡ 92 ∷ y ∷ b = ap (λ c. c ++ a) (sym e) ∙ g ∙ ap (λ c. c ++ b) f in (cc, cc)
same_first x y a b (behind s e) (plain q k f) g =
    let h : 92 ∷ x ∷ a ≡ y ∷ b = ap (λ c. c ++ a) (sym e) ∙ g ∙ ap (λ c. c ++ b) f in
    let k' : 92 ≡ y = cc in absurd (k (sym k'))
same_first x y a b (plain q k e) (behind t f) g =
    let h : x ∷ a ≡ 92 ∷ y ∷ b = ap (λ c. c ++ a) (sym e) ∙ g ∙ ap (λ c. c ++ b) f in
    let k' : x ≡ 92 = cc in absurd (k k')
same_first x y a b (plain q k e) (plain r l f) g =
    let h : x ∷ a ≡ y ∷ b = ap (λ c. c ++ a) (sym e) ∙ g ∙ ap (λ c. c ++ b) f in (cc, cc)

some_byte : (x : ℕ) (a : List ℕ) → Written x → [] ≡ escaped_byte x ++ a → ⊥
some_byte x a (behind s e) g = let h : [] ≡ 92 ∷ x ∷ a = g ∙ ap (λ c. c ++ a) e in cc
some_byte x a (plain q k e) g = let h : [] ≡ x ∷ a = g ∙ ap (λ c. c ++ a) e in cc

-- ---- Whole texts.

-- a text whose escape begins with that of another begins with that text
pub escape_front : (front text rest : List ℕ) → escaped front ++ rest ≡ escaped text
    → (more : List ℕ) × (text ≡ front ++ more) × (rest ≡ escaped more)
escape_front [] text rest e = (text, refl, e)
escape_front (x ∷ front) [] rest e =
    absurd (some_byte x (escaped front ++ rest) (written x) (sym e ∙ append_assoc (escaped_byte x) (escaped front) rest))
escape_front (x ∷ front) (y ∷ text) rest e =
    let s = same_first x y (escaped front ++ rest) (escaped text) (written x) (written y)
    (sym (append_assoc (escaped_byte x) (escaped front) rest) ∙ e) in
    let t = escape_front front text rest s.1 in
    (t.0, cc, t.2)

empty_escape : (text : List ℕ) → [] ≡ escaped text → text ≡ []
empty_escape [] e = refl
empty_escape (x ∷ text) e = absurd (some_byte x (escaped text) (written x) e)

-- an escape is that of one text
pub one_text : (a b : List ℕ) → escaped a ≡ escaped b → a ≡ b
one_text a b e =
    let t = escape_front a b [] (append-nil (escaped a) ∙ e) in
    sym (t.1 ∙ ap (λ more. a ++ more) (empty_escape t.0 t.2) ∙ append-nil a)

-- the escape so far, with what is escaped next
pub escape_further : (whole front rest next more : List ℕ) → whole ≡ escaped front ++ rest → rest ≡ escaped next ++ more
    → whole ≡ escaped (front ++ next) ++ more
escape_further whole front rest next more e f =
    e ∙ ap (λ bytes. escaped front ++ bytes) f ∙ sym (append_assoc (escaped front) (escaped next) more)
    ∙ ap (λ bytes. bytes ++ more) (sym (flat_map-append escaped_byte front next))

-- a text is no shorter than what is found of it
pub escape_length : (whole front rest next more text : List ℕ) → whole ≡ escaped front ++ rest → rest ≡ escaped next ++ more
    → whole ≡ escaped text → length front + length next ≤ length text
escape_length whole front rest next more text e f g =
    let t = escape_front (front ++ next) text more (sym (escape_further whole front rest next more e f) ∙ g) in
    omega (arith, ap length t.1, length-append (front ++ next) t.0, length-append front next)

byte_length : (x : ℕ) → Written x → 0 < length (escaped_byte x)
byte_length x (behind s e) = omega (arith, ap length e)
byte_length x (plain q k e) = omega (arith, ap length e)

not_shorter : (text : List ℕ) → length text ≤ length (escaped text)
not_shorter [] = omega arith
not_shorter (x ∷ text) =
    omega (arith, byte_length x (written x), not_shorter text, length-append (escaped_byte x) (escaped text))

-- a character takes a byte or more of its escape
pub escape_shorter : (c : ℕ) (rest more : List ℕ) → rest ≡ escaped (encode_utf8 c) ++ more → length more < length rest
escape_shorter c rest more e =
    omega (arith, ap length e, length-append (escaped (encode_utf8 c)) more, not_shorter (encode_utf8 c), length-encode c, (len_utf8_bounds c).0)

-- ---- What begins no escape.

pub first_same : (x y : ℕ) (xs ys : List ℕ) → x ∷ xs ≡ y ∷ ys → x ≡ y
first_same x y xs ys e = cc

two_marks : (x : ℕ) → x ≡ 34 → x ≡ 92 → ⊥
two_marks x quote backslash = omega arith

quote_by : (y : ℕ) (rest more : List ℕ) → Written y → 34 ∷ rest ≡ escaped_byte y ++ more → ⊥
quote_by y rest more (behind s e) g = two_marks 34 refl (first_same 34 92 rest (y ∷ more) (g ∙ ap (λ c. c ++ more) e))
quote_by y rest more (plain q k e) g = q (sym (first_same 34 y rest more (g ∙ ap (λ c. c ++ more) e)))

-- a quote
pub quote_first : (rest text : List ℕ) → 34 ∷ rest ≡ escaped text → ⊥
quote_first rest [] e = cc
quote_first rest (y ∷ text) e = quote_by y rest (escaped text) (written y) e

alone_by : (y : ℕ) (more : List ℕ) → Written y → 92 ∷ [] ≡ escaped_byte y ++ more → ⊥
alone_by y more (behind s e) g = let h : 92 ∷ [] ≡ 92 ∷ y ∷ more = g ∙ ap (λ c. c ++ more) e in cc
alone_by y more (plain q k e) g = let h : 92 ∷ [] ≡ y ∷ more = g ∙ ap (λ c. c ++ more) e in k cc

-- a backslash at the end
pub backslash_last : (text : List ℕ) → 92 ∷ [] ≡ escaped text → ⊥
backslash_last [] e = cc
backslash_last (y ∷ text) e = alone_by y (escaped text) (written y) e

behind_by : (c y : ℕ) (rest more : List ℕ) → c ≢ 34 → c ≢ 92 → Written y → 92 ∷ (encode_utf8 c ++ rest) ≡ escaped_byte y ++ more → ⊥
behind_by c y rest more quote backslash (behind s e) g =
    let h : 92 ∷ (encode_utf8 c ++ rest) ≡ 92 ∷ y ∷ more = g ∙ ap (λ c. c ++ more) e in
    let f : y ∷ more ≡ encode_utf8 c ++ rest = cc in
    let first : y < 128 = grind (arith, s) in
    let same : c ≡ y = char_from_byte (y ∷ more) rest c f first (omega arith) in grind (arith, s)
behind_by c y rest more quote backslash (plain q k e) g =
    let h : 92 ∷ (encode_utf8 c ++ rest) ≡ y ∷ more = g ∙ ap (λ c. c ++ more) e in k cc

-- a backslash before a character that needs none
pub backslash_before : (c : ℕ) (rest text : List ℕ) → c ≢ 34 → c ≢ 92 → 92 ∷ (encode_utf8 c ++ rest) ≡ escaped text → ⊥
backslash_before c rest [] quote backslash e = cc
backslash_before c rest (y ∷ text) quote backslash e = behind_by c y rest (escaped text) quote backslash (written y) e

-- ---- The text of an escape.

plain_front : (x : ℕ) (more : List ℕ) → eqb x 92 ≡ false → text_of (x ∷ more) ≡ x ∷ text_of more
unfolding text_of
plain_front x [] k = refl
plain_front x (c ∷ more) k = rw k refl

other_byte : (x : ℕ) → x ≢ 92 → eqb x 92 ≡ false
other_byte x k = grind (arith, nat_tests)

front_text : (x : ℕ) (more text : List ℕ) → Written x → text_of more ≡ text → text_of (escaped_byte x ++ more) ≡ x ∷ text
unfolding text_of
front_text x more text (behind s e) h =
    let first : text_of (92 ∷ x ∷ more) ≡ x ∷ text_of more = refl in
    ap (λ bytes. text_of (bytes ++ more)) e ∙ (first ∙ ap (λ t. x ∷ t) h)
front_text x more text (plain q k e) h =
    ap (λ bytes. text_of (bytes ++ more)) e ∙ (plain_front x more (other_byte x k) ∙ ap (λ t. x ∷ t) h)

empty_text : text_of [] ≡ []
unfolding text_of
empty_text = refl

pub text_of_escaped : (text : List ℕ) → text_of (escaped text) ≡ text
text_of_escaped [] = empty_text
text_of_escaped (x ∷ text) = front_text x (escaped text) text (written x) (text_of_escaped text)

plain_byte : (x : ℕ) (b : Bool) → (eqb x 34 || eqb x 92) ≡ b → not b ≡ true → escaped_byte x ≡ x ∷ []
plain_byte x true e h = cc
plain_byte x false e h = rw e refl

-- a part without quotes and backslashes is its own escape
pub plain_escaped : (part : List ℕ) → list_all is_plain part ≡ true → part ≡ escaped part
plain_escaped [] e = refl
plain_escaped (x ∷ part) e =
    let parts = and_parts (is_plain x) (list_all is_plain part) e in
    ap (λ more. x ∷ more) (plain_escaped part parts.1) ∙ ap (λ bytes. bytes ++ escaped part) (sym (plain_byte x _ refl parts.0))

pub text_is : (part text : List ℕ) → part ≡ escaped text → text_of part ≡ text
text_is part text e = ap text_of e ∙ text_of_escaped text

-- the escape of a note means that note
pub quotes : (part text : List ℕ) (good : Bool) → part ≡ escaped text → good ≡ is_note text → good ≡ true → Quotes is_note part (text_of part)
quotes part text good e f h =
    let same = text_is part text e in
    record { spelled = e ∙ ap escaped (sym same); good = ap is_note same ∙ (sym f ∙ h) }

-- and what is the escape of another text means none
pub quotes_none : (part text : List ℕ) (good : Bool) → part ≡ escaped text → good ≡ is_note text → good ≡ false
    → (note : List ℕ) → Quotes is_note part note → ⊥
quotes_none part text good e f h note q =
    false≢true (sym h ∙ (f ∙ (ap is_note (one_text text note (sym e ∙ q.spelled)) ∙ q.good)))

-- a note isn't too long
pub note_length : (note : List ℕ) → IsTrue (is_note note) → length note ≤ longest_note
unfolding is_note
note_length note good = leb-true (length note) longest_note (and_parts (nat_le (length note) longest_note) (list_all is_note_byte note) good).0
