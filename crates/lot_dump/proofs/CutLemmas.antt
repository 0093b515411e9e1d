-- What the parts of a line are: where they stand they are found, and what is found stands there.
use Rattle.std.proofs.Common.{◌≡◌, ℕ, zero, suc, ◌+◌, ◌-◌, ◌<◌, ◌^◌, Bool, true, false, cond, eqb, List, [], ◌∷◌, ◌++◌, length, take, drop, get_or, Option, Some, None, Result, Ok, Err, refl, ap, ◌∙◌, sym, subst, arith, take-append-drop}
use Rattle.std.specs.Prelude.{◌==◌, nat_lt, bytes_eq, decimal, IsTrue, not, option_map, option_and_then, unwrap_or}
use Rattle.std.specs.Str.{IsUtf8}
use Rattle.std.specs.List.{list_all}
use Rattle.std.specs.Str.Parse.{AllDigits, ParsesUnsigned, digits_value}
use Rattle.std.proofs.lemmas.Str.Parse.{digit_from_value}
use Rattle.std.proofs.lemmas.Bool.{and_parts, and_from, not-true, not_from_false, eqb-true, false_from_ne_true}
use Rattle.std.proofs.lemmas.Bool.Decides.{nat_tests}
use Rattle.std.proofs.lemmas.Fmt.{IsAscii-decimal, decimal_is_IsNumeral, parse-decimal}
use Rattle.std.proofs.lemmas.List.{length-drop, take_all}
use Rattle.std.proofs.lemmas.Option.{none-some}
use Rattle.std.proofs.lemmas.Slice.Eq.{bytes_eq-Decides}
use Rattle.std.proofs.lemmas.Str.{IsUtf8-from_ascii}
use Rattle.std.proofs.Math.Seq.{take-append_seam, drop-append_seam}
use Rattle.memchr.specs.Find.{IsFirstByte, is_byte}
use Rattle.hex.specs.Hex.{IsBytes, decode_sized, encode_lower}
use Rattle.hex.specs.declared.error.FromHexError.{FromHexError}
use Rattle.hex.proofs.HexLemmas.{decode_of-ok, decode_sized-encode_lower, decode_sized-ok, decode_sized-twice}
use Rattle.lot_dump.specs.Cutting.{behind, bytes_by, cut_of, digest_of, number_before, number_of}

-- ---- The first such byte.

-- no such byte stands there
abbrev pub HasNo : ℕ → List ℕ → Type 0
HasNo byte bytes = IsTrue (list_all (λ b. not (b == byte)) bytes)

module _ (byte : ℕ) where
  cut_none : (bytes : List ℕ) → ((k : ℕ) → k < length bytes → eqb (get_or bytes k 0) byte ≡ true → ⊥) → cut_of byte bytes ≡ None
  unfolding cut_of
  cut_none [] h = refl
  cut_none (b ∷ rest) h =
      let e : eqb b byte ≡ false = false_from_ne_true _ (h 0 (omega arith)) in
      let more = cut_none rest (λ k inside is. h (suc k) (omega (arith, inside)) is) in
      rw (e, more) refl

  cut_some : (bytes : List ℕ) (k : ℕ) → k < length bytes → ((i : ℕ) → i < k → eqb (get_or bytes i 0) byte ≡ true → ⊥)
      → eqb (get_or bytes k 0) byte ≡ true → cut_of byte bytes ≡ Some (take k bytes, drop (suc k) bytes)
  unfolding cut_of
  cut_some [] k inside before at = absurd (omega (arith, inside))
  cut_some (b ∷ rest) zero inside before at = rw at refl
  cut_some (b ∷ rest) (suc k) inside before at =
      let e : eqb b byte ≡ false = false_from_ne_true _ (before 0 (omega arith)) in
      let more = cut_some rest k (omega (arith, inside)) (λ i low is. before (suc i) (omega (arith, low)) is) at in
      rw (e, more) refl

  -- by the first place where it stands
  abbrev pub halves : List ℕ → ℕ → List ℕ × List ℕ
  halves bytes k = (take k bytes, take (length bytes - (k + 1)) (drop (k + 1) bytes))

  pub cut_by : (bytes : List ℕ) (place : Option ℕ) → IsFirstByte (is_byte byte) bytes place → cut_of byte bytes ≡ option_map (halves bytes) place
  cut_by bytes None h = cut_none bytes (λ k inside is. h k (omega arith) inside is)
  cut_by bytes (Some k) h =
      let next : suc k ≡ k + 1 = omega arith in
      let len = length-drop (k + 1) bytes in
      let whole : take (length bytes - (k + 1)) (drop (k + 1) bytes) ≡ drop (k + 1) bytes = take_all _ _ (omega (arith, len)) in
      cut_some bytes k h.0.high (λ i low is. h.0.before i (omega arith) low is) h.1 ∙ ap (λ n. Some (take k bytes, drop n bytes)) next
      ∙ ap (λ rest. Some (take k bytes, rest)) (sym whole)

  pub cut_found : (front rest : List ℕ) → HasNo byte front → cut_of byte (front ++ byte ∷ rest) ≡ Some (front, rest)
  unfolding cut_of
  cut_found [] rest none = let e : eqb byte byte ≡ true = grind (arith, nat_tests) in rw e refl
  cut_found (b ∷ front) rest none =
      let parts = and_parts _ _ none in
      let e : eqb b byte ≡ false = not-true _ parts.0 in
      let more = cut_found front rest parts.1 in
      rw (e, more) refl

  -- what is found stands there
  abbrev pub Stood : List ℕ → Option (List ℕ × List ℕ) → Type 0
  Stood bytes None = HasNo byte bytes
  Stood bytes (Some p) = (bytes ≡ p.0 ++ byte ∷ p.1) × HasNo byte p.0

  onto : (b : ℕ) (rest : List ℕ) (cut : Option (List ℕ × List ℕ)) → eqb b byte ≡ false → Stood rest cut
      → Stood (b ∷ rest) (option_map (λ p. (b ∷ p.0, p.1)) cut)
  onto b rest None e stood = and_from _ _ (not_from_false _ e) stood
  onto b rest (Some p) e stood = (ap (λ t. b ∷ t) stood.0, and_from _ _ (not_from_false _ e) stood.1)

  by_first : (b : ℕ) (rest : List ℕ) (end : Bool) → eqb b byte ≡ end → Stood rest (cut_of byte rest)
      → Stood (b ∷ rest) (cond end (Some ([], rest)) (option_map (λ p. (b ∷ p.0, p.1)) (cut_of byte rest)))
  by_first b rest true e stood = (ap (λ x. x ∷ rest) (eqb-true b byte e), refl)
  by_first b rest false e stood = onto b rest (cut_of byte rest) e stood

  pub cut_stood : (bytes : List ℕ) → Stood bytes (cut_of byte bytes)
  unfolding cut_of
  cut_stood [] = refl
  cut_stood (b ∷ rest) = by_first b rest (eqb b byte) refl (cut_stood rest)

-- ---- A front.

pub by_bytes : (test : Bool) (found rest : List ℕ) → cond test (Some found) None ≡ Some rest → (test ≡ true) × (found ≡ rest)
by_bytes true found rest is = (refl, cc)
by_bytes false found rest is = absurd (none-some rest is)

pub behind_found : (front rest : List ℕ) → behind front (front ++ rest) ≡ Some rest
unfolding behind
behind_found front rest =
    let begins : bytes_eq (take (length front) (front ++ rest)) front ≡ true =
    (bytes_eq-Decides _ front).1 (take-append_seam front rest) in
    rw begins (ap Some (drop-append_seam front rest))

pub behind_stood : (front text rest : List ℕ) → behind front text ≡ Some rest → text ≡ front ++ rest
unfolding behind
behind_stood front text rest is =
    let both = by_bytes _ (drop (length front) text) rest is in
    let begins : take (length front) text ≡ front = (bytes_eq-Decides _ front).0 both.0 in
    sym (take-append-drop (length front) text) ∙ ap (λ t. t ++ drop (length front) text) begins ∙ ap (λ t. front ++ t) both.1

-- ---- A number.

pub number_found : (n : ℕ) → n < 2 ^ 32 → number_of (decimal n) ≡ Some n
unfolding number_of
number_found n small =
    let value : digits_value 10 (decimal n) ≡ n = (decimal_is_IsNumeral n (omega (arith, small))).1 in
    let same : bytes_eq (decimal n) (decimal n) ≡ true = (bytes_eq-Decides (decimal n) (decimal n)).1 refl in
    let low : nat_lt n (2 ^ 32) ≡ true = grind (arith, nat_tests) in
    rw value (rw (same, low) refl)

pub if_true : (test : Bool) (found : List ℕ) → test ≡ true → cond test (Some found) None ≡ Some found
if_true true found is = refl
if_true false found is = cc

by_test : (test : Bool) (v n : ℕ) → cond test (Some v) None ≡ Some n → (test ≡ true) × (v ≡ n)
by_test true v n is = (refl, cc)
by_test false v n is = absurd (none-some n is)

pub number_stood : (text : List ℕ) (n : ℕ) → number_of text ≡ Some n → (text ≡ decimal n) × (n < 2 ^ 32)
unfolding number_of
number_stood text n is =
    let both = by_test _ (digits_value 10 text) n is in
    let tests = and_parts _ _ both.0 in
    let value : digits_value 10 text ≡ n = both.1 in
    let whole : text ≡ decimal (digits_value 10 text) = (bytes_eq-Decides text (decimal (digits_value 10 text))).0 tests.0 in
    (whole ∙ ap decimal value, subst (λ v. v < 2 ^ 32) value (grind (arith, nat_tests, tests.1)))

none_of : (text : List ℕ) (o : Option ℕ) → number_of text ≡ o → ((n : ℕ) → n < 2 ^ 32 → text ≡ decimal n → ⊥) → o ≡ None
none_of text None is none = refl
none_of text (Some n) is none = let stood = number_stood text n is in absurd (none n stood.1 stood.0)

-- what isn't the text of a number is found to be none
no_number : (text : List ℕ) → ((n : ℕ) → n < 2 ^ 32 → text ≡ decimal n → ⊥) → number_of text ≡ None
no_number text none = none_of text (number_of text) refl none

pub not_text : (text : List ℕ) → (IsUtf8 text → ⊥) → number_of text ≡ None
not_text text not = no_number text (λ n small is. not (subst IsUtf8 (sym is) (IsUtf8-from_ascii _ (IsAscii-decimal n (omega (arith, small))))))

-- what std reads of a text, and what its number is
module _ {E : Type 0} (text digits : List ℕ) (read : Result ℕ E) (same : digits ≡ text) (parsed : ParsesUnsigned 32 10 digits read) where
  pub not_read : (e : E) → read ≡ Err e → number_of text ≡ None
  not_read e is =
      no_number text (λ n small whole.
      let ok : read ≡ Ok n = parse-decimal 32 n digits read small (omega (arith, small)) (same ∙ whole) parsed in cc)

  pub read_as : (n : ℕ) → read ≡ Ok n → text ≡ decimal n → number_of text ≡ Some n
  read_as n is whole =
      let here = rw is at parsed in
      subst (λ (t : List ℕ). number_of t ≡ Some n) (sym whole) (number_found n (omega (arith, here.0.1, here.1)))

  pub read_other : (n : ℕ) → read ≡ Ok n → (text ≡ decimal n → ⊥) → number_of text ≡ None
  read_other n is other =
      no_number text (λ m small whole.
      let ok : read ≡ Ok m = parse-decimal 32 m digits read small (omega (arith, small)) (same ∙ whole) parsed in
      let one : m ≡ n = cc in
      other (whole ∙ ap decimal one))

digits_without : (ds : List ℕ) → AllDigits 10 ds → HasNo 32 ds
digits_without [] all = refl
digits_without (c ∷ cs) (one, more) =
    let digit = digit_from_value c one in
    and_from _ _ (not_from_false _ (grind (arith, nat_tests, digit.0))) (digits_without cs more)

no_blank : (n : ℕ) → n < 2 ^ 32 → HasNo 32 (decimal n)
no_blank n small = digits_without (decimal n) (decimal_is_IsNumeral n (omega (arith, small))).0.1

-- ---- One step after another.

pub then_found : {A B : Type 0} (f : A → Option B) (o : Option A) (a : A) (b : Option B) → o ≡ Some a → f a ≡ b → option_and_then f o ≡ b
then_found f o a b is more = ap (option_and_then f) is ∙ more

pub last_found : {A B : Type 0} (f : A → B) (o : Option A) (a : A) → o ≡ Some a → option_map f o ≡ Some (f a)
last_found f o a is = ap (option_map f) is

pub then_stood : {A B : Type 0} (f : A → Option B) (o : Option A) (b : B) → option_and_then f o ≡ Some b
    → (a : A) × (o ≡ Some a) × (f a ≡ Some b)
then_stood f None b is = absurd (none-some b is)
then_stood f (Some a) b is = (a, refl, is)

pub last_stood : {A B : Type 0} (f : A → B) (o : Option A) (b : B) → option_map f o ≡ Some b → (a : A) × (o ≡ Some a) × (f a ≡ b)
last_stood f None b is = absurd (none-some b is)
last_stood f (Some a) b is = (a, refl, ap (λ o. unwrap_or o b) is)

-- ---- A number and what stands behind it.

pub before_found : (word : List ℕ) (n : ℕ) (rest : List ℕ) → n < 2 ^ 32
    → number_before word (decimal n ++ 32 ∷ (word ++ rest)) ≡ Some (n, rest)
unfolding number_before
before_found word n rest small =
    then_found _ _ _ _ (cut_found 32 (decimal n) (word ++ rest) (no_blank n small))
    (then_found _ _ _ _ (number_found n small) (last_found _ _ _ (behind_found word rest)))

pub before_stood : (word text : List ℕ) (p : ℕ × List ℕ) → number_before word text ≡ Some p
    → (text ≡ decimal p.0 ++ 32 ∷ (word ++ p.1)) × (p.0 < 2 ^ 32)
unfolding number_before
before_stood word text p is =
    let (cut, at, more) = then_stood _ (cut_of 32 text) p is in
    let (n, number, last) = then_stood _ (number_of cut.0) p more in
    let (rest, end, same) = last_stood _ (behind word cut.1) p last in
    let stood = subst (Stood 32 text) at (cut_stood 32 text) in
    let digits = number_stood cut.0 n number in
    let whole : text ≡ decimal n ++ 32 ∷ (word ++ rest) =
    stood.0 ∙ ap (λ w. w ++ 32 ∷ cut.1) digits.0 ∙ ap (λ t. decimal n ++ 32 ∷ t) (behind_stood word cut.1 rest end) in
    (whole ∙ ap (λ (q : ℕ × List ℕ). decimal q.0 ++ 32 ∷ (word ++ q.1)) same, subst (λ (q : ℕ × List ℕ). q.0 < 2 ^ 32) same digits.1)

-- ---- A digest.

pub digest_found : (bytes : List ℕ) → length bytes ≡ 32 → IsBytes bytes → digest_of (encode_lower bytes) ≡ Some bytes
unfolding digest_of
digest_found bytes whole are =
    let same : bytes_eq (encode_lower bytes) (encode_lower bytes) ≡ true = (bytes_eq-Decides _ (encode_lower bytes)).1 refl in
    ap (bytes_by (encode_lower bytes)) (decode_sized-encode_lower bytes 32 whole are) ∙ if_true _ bytes same

digest_by : (text : List ℕ) (read : Result (List ℕ) FromHexError) (bytes : List ℕ) → decode_sized text 32 ≡ read
    → bytes_by text read ≡ Some bytes → (text ≡ encode_lower bytes) × (length bytes ≡ 32) × IsBytes bytes
digest_by text (Err fault) bytes is by = absurd (none-some bytes by)
digest_by text (Ok found) bytes is by =
    let both = by_bytes _ found bytes by in
    let whole : text ≡ encode_lower found = (bytes_eq-Decides text (encode_lower found)).0 both.0 in
    let len = decode_sized-ok text 32 found is in
    let parts = decode_of-ok text found (sym (decode_sized-twice text 32 len) ∙ is) in
    (whole ∙ ap encode_lower both.1, subst (λ (b : List ℕ). length b ≡ 32) both.1 (omega (arith, len, parts.2)), subst IsBytes both.1 parts.3)

pub digest_stood : (text bytes : List ℕ) → digest_of text ≡ Some bytes → (text ≡ encode_lower bytes) × (length bytes ≡ 32) × IsBytes bytes
unfolding digest_of
digest_stood text bytes is = digest_by text (decode_sized text 32) bytes refl is

pub digest_same : (text bytes : List ℕ) → text ≡ encode_lower bytes → bytes_by text (Ok bytes) ≡ Some bytes
digest_same text bytes is = if_true _ bytes ((bytes_eq-Decides text (encode_lower bytes)).1 is)

pub if_false : (test : Bool) (found : List ℕ) → test ≡ false → cond test (Some found) None ≡ None
if_false true found is = cc
if_false false found is = refl

pub digest_other : (text bytes : List ℕ) → (text ≡ encode_lower bytes → ⊥) → bytes_by text (Ok bytes) ≡ None
digest_other text bytes other =
    if_false _ bytes (false_from_ne_true _ (λ same. other ((bytes_eq-Decides text (encode_lower bytes)).0 same)))

-- what was decoded, by whether its text is this one
pub digest_is : (text : List ℕ) (read : Result (List ℕ) FromHexError) → read ≡ decode_sized text 32 → bytes_by text read ≡ digest_of text
unfolding digest_of
digest_is text read is = ap (bytes_by text) is
