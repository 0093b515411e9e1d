-- A number is found where it stands, and what is found is a number.
use Rattle.std.proofs.Common.{◌≡◌, inl, inr, ℕ, suc, ◌+◌, Bool, true, false, List, [], ◌∷◌, ◌++◌, length, drop, refl, ap, ◌∙◌, sym, subst, arith, eqb, append_assoc, length-append}
use Rattle.std.specs.Prelude.{◌&&◌}
use Rattle.std.specs.Char.{is_ascii_digit}
use Rattle.std.proofs.lemmas.Bool.{and_parts, and_from, or_cases, or_parts, or_from, or_left, or_right, eqb-true, eq-eqb}
use Rattle.std.proofs.lemmas.Bool.Decides.{nat_tests}
use Rattle.lot_syntax.specs.Token.{IsWhole, IsSignPart, IsFraction, EndsNumber, IsNumber, is_sign, begins, begins_with, begins_comma_digit}
use Rattle.lot_syntax.specs.Cutting.{BeginsNumber, goes_on, whole_len, fraction_len, digits_len, number_len}
use Rattle.lot_syntax.proofs.RunLemmas.{run_found, has_run, whole_more, whole_ends, drop_front}

-- ---- What stands there is found.

whole_begins : (w rest : List ℕ) → IsWhole w → begins is_ascii_digit (w ++ rest) ≡ true
whole_begins [] rest h = absurd h
whole_begins (b ∷ []) rest h = h
whole_begins (b ∷ c ∷ w) rest h = h.0

whole_on : (b : ℕ) (rest : List ℕ) → goes_on (b ∷ rest) ≡ true → whole_len (b ∷ rest) ≡ suc (whole_len rest)
whole_on b rest e = (whole_more (b ∷ rest) e).0

goes_digit : (b : ℕ) (rest : List ℕ) → is_ascii_digit b ≡ true → goes_on (b ∷ rest) ≡ true
goes_digit b rest e = or_left _ _ e

goes_comma : (b : ℕ) (rest : List ℕ) → b ≡ 44 → begins is_ascii_digit rest ≡ true → goes_on (b ∷ rest) ≡ true
goes_comma b rest e digit = or_right _ _ (and_from _ _ (eq-eqb b 44 e) digit)

pub whole_found : (w rest : List ℕ) → IsWhole w → goes_on rest ≡ false → whole_len (w ++ rest) ≡ length w
whole_found [] rest h e = absurd h
whole_found (b ∷ []) rest h e = whole_on b rest (goes_digit b rest h) ∙ ap suc (whole_ends rest e)
whole_found (b ∷ c ∷ w) rest (digit, inl more) e =
    whole_on b (c ∷ (w ++ rest)) (goes_digit b (c ∷ (w ++ rest)) digit) ∙ ap suc (whole_found (c ∷ w) rest more e)
whole_found (b ∷ c ∷ w) rest (digit, inr (comma, more)) e =
    whole_on b (c ∷ (w ++ rest)) (goes_digit b (c ∷ (w ++ rest)) digit)
    ∙ ap suc (whole_on c (w ++ rest) (goes_comma c (w ++ rest) comma (whole_begins w rest more)))
    ∙ ap (λ n. suc (suc n)) (whole_found w rest more e)

point_stops : (b : ℕ) (rest : List ℕ) → b ≡ 46 → goes_on (b ∷ rest) ≡ false
point_stops b rest e = rw e refl

number_stops : (fraction rest : List ℕ) → IsFraction fraction → EndsNumber fraction rest → goes_on (fraction ++ rest) ≡ false
number_stops [] rest h ends = or_from _ _ ends.0 ends.1
number_stops (b ∷ digits) rest h ends = point_stops b (digits ++ rest) h.0

no_fraction : (rest : List ℕ) → begins_with 46 rest ≡ false → fraction_len rest ≡ 0
unfolding fraction_len
no_fraction [] e = refl
no_fraction (b ∷ rest) e = rw e refl

fraction_found : (fraction rest : List ℕ) → IsFraction fraction → EndsNumber fraction rest
    → fraction_len (fraction ++ rest) ≡ length fraction
unfolding fraction_len
fraction_found [] rest h ends = no_fraction rest ends.2
fraction_found (b ∷ digits) rest h ends =
    let point = eq-eqb b 46 h.0 in
    rw point (ap suc (run_found is_ascii_digit digits rest h.1 ends))

digits_found : (digits fraction rest : List ℕ) → IsWhole digits → IsFraction fraction → EndsNumber fraction rest
    → digits_len (digits ++ (fraction ++ rest)) ≡ length digits + length fraction
digits_found digits fraction rest h f ends =
    let len = whole_found digits (fraction ++ rest) h (number_stops fraction rest f ends) in
    let behind : drop (whole_len (digits ++ (fraction ++ rest))) (digits ++ (fraction ++ rest)) ≡ fraction ++ rest =
    ap (λ n. drop n (digits ++ (fraction ++ rest))) len ∙ drop_front digits (fraction ++ rest) in
    ap (λ n. n + fraction_len (drop (whole_len (digits ++ (fraction ++ rest))) (digits ++ (fraction ++ rest)))) len
    ∙ ap (λ bytes. length digits + fraction_len bytes) behind
    ∙ ap (λ n. length digits + n) (fraction_found fraction rest f ends)

digit_no_sign : (b : ℕ) → is_ascii_digit b ≡ true → is_sign b ≡ false
digit_no_sign b e = grind (arith, nat_tests)

unsigned_len : (bytes : List ℕ) → begins is_ascii_digit bytes ≡ true → number_len bytes ≡ digits_len bytes
unfolding number_len
unsigned_len [] e = cc
unsigned_len (b ∷ rest) e =
    let no = digit_no_sign b e in
    rw no refl

signed_len : (s : ℕ) (bytes : List ℕ) → is_sign s ≡ true → number_len (s ∷ bytes) ≡ suc (digits_len bytes)
unfolding number_len
signed_len s bytes e = rw e refl

signed_found : (sign digits fraction rest : List ℕ) → IsSignPart sign → IsWhole digits → IsFraction fraction → EndsNumber fraction rest
    → number_len (sign ++ (digits ++ (fraction ++ rest))) ≡ length sign + (length digits + length fraction)
signed_found [] digits fraction rest s h f ends =
    unsigned_len (digits ++ (fraction ++ rest)) (whole_begins digits (fraction ++ rest) h) ∙ digits_found digits fraction rest h f ends
    ∙ omega arith
signed_found (b ∷ []) digits fraction rest s h f ends =
    signed_len b (digits ++ (fraction ++ rest)) s ∙ ap suc (digits_found digits fraction rest h f ends) ∙ omega arith
signed_found (b ∷ c ∷ more) digits fraction rest s h f ends = absurd s

number_parts : (bytes rest : List ℕ) (n : IsNumber bytes rest) → bytes ++ rest ≡ n.sign ++ (n.digits ++ (n.fraction ++ rest))
number_parts bytes rest n = rw n.whole (simp append_assoc)

pub number_found : (bytes rest : List ℕ) → IsNumber bytes rest → number_len (bytes ++ rest) ≡ length bytes
number_found bytes rest n =
    let l = ap length n.whole in
    let m = length-append n.sign (n.digits ++ n.fraction) in
    let k = length-append n.digits n.fraction in
    ap number_len (number_parts bytes rest n)
    ∙ signed_found n.sign n.digits n.fraction rest n.is_sign n.is_digits n.is_fraction n.ends
    ∙ omega arith

begins_unsigned : (digits rest : List ℕ) → IsWhole digits → BeginsNumber (digits ++ rest)
begins_unsigned [] rest h = absurd h
begins_unsigned (b ∷ []) rest h = inl h
begins_unsigned (b ∷ c ∷ digits) rest h = inl h.0

begins_signed : (sign digits rest : List ℕ) → IsSignPart sign → IsWhole digits → BeginsNumber (sign ++ (digits ++ rest))
begins_signed [] digits rest s h = begins_unsigned digits rest h
begins_signed (b ∷ []) digits rest s h = inr (s, whole_begins digits rest h)
begins_signed (b ∷ c ∷ more) digits rest s h = absurd s

pub begins_number : (bytes rest : List ℕ) → IsNumber bytes rest → BeginsNumber (bytes ++ rest)
begins_number bytes rest n =
    subst BeginsNumber (sym (number_parts bytes rest n)) (begins_signed n.sign n.digits (n.fraction ++ rest) n.is_sign n.is_digits)

-- ---- What is found stands there.

record HasWhole (bytes : List ℕ) : Type 0 where
  front : List ℕ
  rest : List ℕ
  whole : bytes ≡ front ++ rest
  is : IsWhole front
  ends : goes_on rest ≡ false
  len : whole_len bytes ≡ length front

whole_cons : (b : ℕ) (w : List ℕ) → is_ascii_digit b ≡ true → IsWhole w → IsWhole (b ∷ w)
whole_cons b [] digit h = absurd h
whole_cons b (c ∷ w) digit h = (digit, inl h)

whole_one : (b : ℕ) (rest : List ℕ) → is_ascii_digit b ≡ true → goes_on rest ≡ false → HasWhole (b ∷ rest)
whole_one b rest digit stops = record {
  front = b ∷ [];
  rest = rest;
  whole = refl;
  is = digit;
  ends = stops;
  len = whole_on b rest (goes_digit b rest digit) ∙ ap suc (whole_ends rest stops);
}

whole_digit : (b : ℕ) (rest : List ℕ) → is_ascii_digit b ≡ true → HasWhole rest → HasWhole (b ∷ rest)
whole_digit b rest digit h = record {
  front = b ∷ h.front;
  rest = h.rest;
  whole = ap (λ x. b ∷ x) h.whole;
  is = whole_cons b h.front digit h.is;
  ends = h.ends;
  len = whole_on b rest (goes_digit b rest digit) ∙ ap suc h.len;
}

whole_comma : (b c : ℕ) (rest : List ℕ) → is_ascii_digit b ≡ true → goes_on (c ∷ rest) ≡ true → c ≡ 44 → HasWhole rest
    → HasWhole (b ∷ c ∷ rest)
whole_comma b c rest digit goes comma h = record {
  front = b ∷ c ∷ h.front;
  rest = h.rest;
  whole = ap (λ x. b ∷ c ∷ x) h.whole;
  is = (digit, inr (comma, h.is));
  ends = h.ends;
  len = whole_on b (c ∷ rest) (goes_digit b (c ∷ rest) digit) ∙ ap suc (whole_on c rest goes) ∙ ap (λ n. suc (suc n)) h.len;
}

-- what the second byte says
whole_next : (b c : ℕ) (rest : List ℕ) (goes : Bool) → is_ascii_digit b ≡ true → goes_on (c ∷ rest) ≡ goes
    → (is_ascii_digit c ≡ true → HasWhole (c ∷ rest)) → (begins is_ascii_digit rest ≡ true → HasWhole rest) → HasWhole (b ∷ c ∷ rest)
whole_next b c rest false digit e next after = whole_one b (c ∷ rest) digit e
whole_next b c rest true digit e next after =
    elim (or_cases (is_ascii_digit c) (eqb c 44 && begins is_ascii_digit rest) e) [
      | inl more ↦ whole_digit b (c ∷ rest) digit (next more)
      | inr comma ↦
          let parts = and_parts (eqb c 44) (begins is_ascii_digit rest) comma in
          whole_comma b c rest digit e (eqb-true c 44 parts.0) (after parts.1)
    ]

has_whole : (bytes : List ℕ) → begins is_ascii_digit bytes ≡ true → HasWhole bytes
has_whole [] e = cc
has_whole (b ∷ []) e = whole_one b [] e refl
has_whole (b ∷ c ∷ rest) e =
    whole_next b c rest (goes_on (c ∷ rest)) e refl (λ next. has_whole (c ∷ rest) next) (λ after. has_whole rest after)

record HasFraction (bytes : List ℕ) : Type 0 where
  front : List ℕ
  rest : List ℕ
  whole : bytes ≡ front ++ rest
  is : IsFraction front
  ends : EndsNumber front rest
  len : fraction_len bytes ≡ length front

fraction_by : (b : ℕ) (rest : List ℕ) (point : Bool) → eqb b 46 ≡ point → goes_on (b ∷ rest) ≡ false → HasFraction (b ∷ rest)
unfolding fraction_len
fraction_by b rest true point stops =
    let h = has_run is_ascii_digit rest in
    record {
      front = b ∷ h.front;
      rest = h.rest;
      whole = ap (λ x. b ∷ x) h.whole;
      is = (eqb-true b 46 point, h.all);
      ends = h.ends;
      len = rw point (ap suc h.len);
    }
fraction_by b rest false point stops =
    let parts = or_parts (is_ascii_digit b) (begins_comma_digit (b ∷ rest)) stops in
    record {
      front = [];
      rest = b ∷ rest;
      whole = refl;
      is = tt;
      ends = (parts.0, parts.1, point);
      len = rw point refl;
    }

has_fraction : (bytes : List ℕ) → goes_on bytes ≡ false → HasFraction bytes
unfolding fraction_len
has_fraction [] stops = record { front = []; rest = []; whole = refl; is = tt; ends = (refl, refl, refl); len = refl }
has_fraction (b ∷ rest) stops = fraction_by b rest (eqb b 46) refl stops

-- a number at the front
pub record NumberAt (bytes : List ℕ) : Type 0 where
  pub front : List ℕ
  pub rest : List ℕ
  pub whole : bytes ≡ front ++ rest
  pub is : IsNumber front rest
  pub len : number_len bytes ≡ length front

record HasDigits (bytes : List ℕ) : Type 0 where
  digits : List ℕ
  fraction : List ℕ
  rest : List ℕ
  whole : bytes ≡ digits ++ (fraction ++ rest)
  is_digits : IsWhole digits
  is_fraction : IsFraction fraction
  ends : EndsNumber fraction rest

has_digits : (bytes : List ℕ) → begins is_ascii_digit bytes ≡ true → HasDigits bytes
has_digits bytes e =
    let w = has_whole bytes e in
    let f = has_fraction w.rest w.ends in
    record {
      digits = w.front;
      fraction = f.front;
      rest = f.rest;
      whole = w.whole ∙ ap (λ x. w.front ++ x) f.whole;
      is_digits = w.is;
      is_fraction = f.is;
      ends = f.ends;
    }

number_of : (sign bytes : List ℕ) → IsSignPart sign → HasDigits bytes → NumberAt (sign ++ bytes)
number_of sign bytes s h =
    let front = sign ++ (h.digits ++ h.fraction) in
    let whole : sign ++ bytes ≡ front ++ h.rest = rw h.whole (simp append_assoc) in
    let is : IsNumber front h.rest = record {
      sign = sign;
      digits = h.digits;
      fraction = h.fraction;
      whole = refl;
      is_sign = s;
      is_digits = h.is_digits;
      is_fraction = h.is_fraction;
      ends = h.ends;
    } in
    record { front = front; rest = h.rest; whole = whole; is = is; len = ap number_len whole ∙ number_found front h.rest is }

pub number_at_front : (bytes : List ℕ) → BeginsNumber bytes → NumberAt bytes
number_at_front [] h = absurd h
number_at_front (b ∷ rest) (inl digit) = number_of [] (b ∷ rest) tt (has_digits (b ∷ rest) digit)
number_at_front (b ∷ rest) (inr (sign, digit)) = number_of (b ∷ []) rest sign (has_digits rest digit)
