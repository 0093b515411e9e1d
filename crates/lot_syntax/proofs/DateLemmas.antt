-- A date is found where it stands, and what is found is a date.
use Rattle.std.proofs.Common.{◌≡◌, ◌⊎◌, inl, inr, ℕ, suc, ◌+◌, Bool, true, false, cond, List, [], ◌∷◌, ◌++◌, length, Some, None, refl, ap, ◌∙◌, sym, arith, append_assoc, length-append}
use Rattle.std.specs.Prelude.{option_map, IsFalse, ◌&&◌}
use Rattle.std.specs.Char.{is_ascii_digit}
use Rattle.std.proofs.lemmas.Bool.{and_parts, and_from}
use Rattle.std.proofs.lemmas.Bool.Decides.{nat_tests}
use Rattle.std.proofs.lemmas.Option.{same_Some, none-some}
use Rattle.lot_base.specs.Day.{is_separator}
use Rattle.lot_syntax.specs.Token.{AreDigits, IsDate, HasDate, begins}
use Rattle.lot_syntax.specs.Cutting.{day_len, month_len, date_len}
use Rattle.lot_syntax.proofs.OptionLemmas.{guarded, mapped}

-- ---- Digits, one by one.

-- one digit, or two
abbrev pub OneOrTwo : List ℕ → Type 0
OneOrTwo [] = ⊥
OneOrTwo (a ∷ []) = is_ascii_digit a ≡ true
OneOrTwo (a ∷ b ∷ []) = (is_ascii_digit a ≡ true) × (is_ascii_digit b ≡ true)
OneOrTwo (a ∷ b ∷ c ∷ rest) = ⊥

abbrev pub Four : List ℕ → Type 0
Four (a ∷ b ∷ c ∷ d ∷ []) =
    (is_ascii_digit a ≡ true) × (is_ascii_digit b ≡ true) × (is_ascii_digit c ≡ true) × (is_ascii_digit d ≡ true)
Four _ = ⊥

pub one_or_two : (part : List ℕ) → AreDigits 1 2 part → OneOrTwo part
one_or_two [] h = absurd (omega (arith, h.least_len))
one_or_two (a ∷ []) h = (and_parts _ _ h.digits).0
one_or_two (a ∷ b ∷ []) h =
    let more = and_parts _ _ h.digits in
    (more.0, (and_parts _ _ more.1).0)
one_or_two (a ∷ b ∷ c ∷ rest) h = absurd (omega (arith, h.most_len))

pub four : (part : List ℕ) → AreDigits 4 4 part → Four part
four [] h = absurd (omega (arith, h.least_len))
four (a ∷ []) h = absurd (omega (arith, h.least_len))
four (a ∷ b ∷ []) h = absurd (omega (arith, h.least_len))
four (a ∷ b ∷ c ∷ []) h = absurd (omega (arith, h.least_len))
four (a ∷ b ∷ c ∷ d ∷ []) h =
    let p = and_parts _ _ h.digits in
    let q = and_parts _ _ p.1 in
    let r = and_parts _ _ q.1 in
    (p.0, q.0, r.0, (and_parts _ _ r.1).0)
four (a ∷ b ∷ c ∷ d ∷ e ∷ rest) h = absurd (omega (arith, h.most_len))

one_digit : (a : ℕ) → is_ascii_digit a ≡ true → AreDigits 1 2 (a ∷ [])
one_digit a e = record { least_len = omega arith; most_len = omega arith; digits = and_from _ _ e refl }

two_digits : (a b : ℕ) → is_ascii_digit a ≡ true → is_ascii_digit b ≡ true → AreDigits 1 2 (a ∷ b ∷ [])
two_digits a b e f = record { least_len = omega arith; most_len = omega arith; digits = and_from _ _ e (and_from _ _ f refl) }

four_digits : (a b c d : ℕ) → is_ascii_digit a ≡ true → is_ascii_digit b ≡ true → is_ascii_digit c ≡ true → is_ascii_digit d ≡ true
    → AreDigits 4 4 (a ∷ b ∷ c ∷ d ∷ [])
four_digits a b c d e f g h = record {
  least_len = omega arith;
  most_len = omega arith;
  digits = and_from _ _ e (and_from _ _ f (and_from _ _ g (and_from _ _ h refl)));
}

digit_not_separator : (b : ℕ) → is_ascii_digit b ≡ true → is_separator b ≡ false
digit_not_separator b e = grind (arith, nat_tests)

-- ---- What stands there is found.

-- the last part takes a second digit where there is one
abbrev pub TakesAll : List ℕ → List ℕ → Type 0
TakesAll day rest = (length day ≡ 2) ⊎ IsFalse (begins is_ascii_digit rest)

day_found : (day rest : List ℕ) → OneOrTwo day → TakesAll day rest → day_len (day ++ rest) ≡ Some (length day)
unfolding day_len
day_found [] rest h all = absurd h
day_found (a ∷ []) rest h (inl two) = absurd (omega arith)
day_found (a ∷ []) rest h (inr none) = rw (h, none) refl
day_found (a ∷ b ∷ []) rest h all = rw (h.0, h.1) refl
day_found (a ∷ b ∷ c ∷ more) rest h all = absurd h

day_some : (day rest : List ℕ) → OneOrTwo day → (n : ℕ) × (day_len (day ++ rest) ≡ Some n)
unfolding day_len
day_some [] rest h = absurd h
day_some (a ∷ []) rest h = by (begins is_ascii_digit rest) refl
  where
    by : (b : Bool) → begins is_ascii_digit rest ≡ b → (n : ℕ) × (day_len (a ∷ rest) ≡ Some n)
    by true e = (2, rw (h, e) refl)
    by false e = (1, rw (h, e) refl)
day_some (a ∷ b ∷ []) rest h = (2, rw (h.0, h.1) refl)
day_some (a ∷ b ∷ c ∷ more) rest h = absurd h

month_found : (month after : List ℕ) (t n : ℕ) → OneOrTwo month → is_separator t ≡ true → day_len after ≡ Some n
    → month_len (month ++ t ∷ after) ≡ Some (length month + (1 + n))
unfolding day_len
month_found [] after t n h sep e = absurd h
month_found (a ∷ []) [] t n h sep e = cc
month_found (a ∷ []) (c ∷ rest) t n h sep e = rw (h, sep, e) (ap Some (omega arith))
month_found (a ∷ b ∷ []) after t n h sep e =
    let no = digit_not_separator b h.1 in
    rw (h.0, no, h.1, sep, e) (ap Some (omega arith))
month_found (a ∷ b ∷ c ∷ more) after t n h sep e = absurd h

year_found : (year after : List ℕ) (s n : ℕ) → Four year → is_separator s ≡ true → month_len after ≡ Some n
    → date_len (year ++ s ∷ after) ≡ Some (length year + (1 + n))
year_found [] after s n h sep e = absurd h
year_found (a ∷ []) after s n h sep e = absurd h
year_found (a ∷ b ∷ []) after s n h sep e = absurd h
year_found (a ∷ b ∷ c ∷ []) after s n h sep e = absurd h
year_found (a ∷ b ∷ c ∷ d ∷ []) after s n h sep e = rw (h.0, h.1, h.2, h.3, sep, e) (ap Some (omega arith))
year_found (a ∷ b ∷ c ∷ d ∷ x ∷ more) after s n h sep e = absurd h

-- the parts of a date, and what follows it
joined : (bytes rest : List ℕ) (d : IsDate bytes)
    → bytes ++ rest ≡ d.year ++ d.first ∷ (d.month ++ d.second ∷ (d.day ++ rest))
joined bytes rest d = rw d.whole (simp append_assoc)

date_by : (bytes rest : List ℕ) (d : IsDate bytes) (n : ℕ) → day_len (d.day ++ rest) ≡ Some n
    → date_len (bytes ++ rest) ≡ Some (length d.year + (1 + (length d.month + (1 + n))))
date_by bytes rest d n e =
    ap date_len (joined bytes rest d)
    ∙ year_found d.year _ d.first _ (four d.year d.is_year) d.is_first
    (month_found d.month _ d.second n (one_or_two d.month d.is_month) d.is_second e)

date_length : (bytes : List ℕ) (d : IsDate bytes) → length bytes ≡ length d.year + (1 + (length d.month + (1 + length d.day)))
date_length bytes d =
    let whole = ap length d.whole in
    let l = length-append d.year (d.first ∷ (d.month ++ d.second ∷ d.day)) in
    let m = length-append d.month (d.second ∷ d.day) in
    omega arith

pub date_found : (bytes rest : List ℕ) (d : IsDate bytes) → TakesAll d.day rest → date_len (bytes ++ rest) ≡ Some (length bytes)
date_found bytes rest d all =
    date_by bytes rest d _ (day_found d.day rest (one_or_two d.day d.is_day) all) ∙ ap Some (sym (date_length bytes d))

pub date_some : (bytes : List ℕ) → HasDate bytes → date_len bytes ≡ None → ⊥
date_some bytes (found, rest, d, whole) none =
    let day = day_some d.day rest (one_or_two d.day d.is_day) in
    none-some _ (sym none ∙ ap date_len whole ∙ date_by found rest d day.0 day.1)

-- ---- What is found stands there.

record HasDay (bytes : List ℕ) (n : ℕ) : Type 0 where
  day : List ℕ
  rest : List ℕ
  whole : bytes ≡ day ++ rest
  is_day : AreDigits 1 2 day
  all : TakesAll day rest
  len : n ≡ length day

day_by : (a n : ℕ) (rest : List ℕ) (b : Bool) → is_ascii_digit a ≡ true → begins is_ascii_digit rest ≡ b
    → cond b (Some 2) (Some 1) ≡ Some n → HasDay (a ∷ rest) n
day_by a n [] true digit e f = cc
day_by a n (b ∷ rest) true digit e f = record {
  day = a ∷ b ∷ [];
  rest = rest;
  whole = refl;
  is_day = two_digits a b digit e;
  all = inl refl;
  len = sym (same_Some 2 n f);
}
day_by a n rest false digit e f = record {
  day = a ∷ [];
  rest = rest;
  whole = refl;
  is_day = one_digit a digit;
  all = inr e;
  len = sym (same_Some 1 n f);
}

has_day : (bytes : List ℕ) (n : ℕ) → day_len bytes ≡ Some n → HasDay bytes n
unfolding day_len
has_day [] n e = absurd (none-some n e)
has_day (a ∷ rest) n e =
    let h = guarded (is_ascii_digit a) _ n e in
    day_by a n rest (begins is_ascii_digit rest) h.0 refl h.1

record HasMonth (bytes : List ℕ) (n : ℕ) : Type 0 where
  month : List ℕ
  second : ℕ
  day : List ℕ
  rest : List ℕ
  whole : bytes ≡ month ++ second ∷ (day ++ rest)
  is_month : AreDigits 1 2 month
  is_second : is_separator second ≡ true
  is_day : AreDigits 1 2 day
  all : TakesAll day rest
  len : n ≡ length month + (1 + length day)

month_one : (a b n m : ℕ) (rest : List ℕ) → is_ascii_digit a ≡ true → is_separator b ≡ true → HasDay rest m → suc (suc m) ≡ n
    → HasMonth (a ∷ b ∷ rest) n
month_one a b n m rest digit sep d e = record {
  month = a ∷ [];
  second = b;
  day = d.day;
  rest = d.rest;
  whole = ap (λ x. a ∷ b ∷ x) d.whole;
  is_month = one_digit a digit;
  is_second = sep;
  is_day = d.is_day;
  all = d.all;
  len = omega (arith, e, d.len);
}

month_two : (a b c n m : ℕ) (rest : List ℕ) → is_ascii_digit a ≡ true → is_ascii_digit b ≡ true → is_separator c ≡ true → HasDay rest m
    → suc (suc (suc m)) ≡ n → HasMonth (a ∷ b ∷ c ∷ rest) n
month_two a b c n m rest digit digit2 sep d e = record {
  month = a ∷ b ∷ [];
  second = c;
  day = d.day;
  rest = d.rest;
  whole = ap (λ x. a ∷ b ∷ c ∷ x) d.whole;
  is_month = two_digits a b digit digit2;
  is_second = sep;
  is_day = d.is_day;
  all = d.all;
  len = omega (arith, e, d.len);
}

month_by : (a b c n : ℕ) (rest : List ℕ) (one : Bool) → (is_ascii_digit a && is_separator b) ≡ one
    → cond one (option_map (λ m. suc (suc m)) (day_len (c ∷ rest)))
    (cond ((is_ascii_digit a && is_ascii_digit b) && is_separator c) (option_map (λ m. suc (suc (suc m))) (day_len rest)) None) ≡ Some n
    → HasMonth (a ∷ b ∷ c ∷ rest) n
month_by a b c n rest true one e =
    let t = and_parts _ _ one in
    let m = mapped (λ m. suc (suc m)) (day_len (c ∷ rest)) n e in
    month_one a b n m.0 (c ∷ rest) t.0 t.1 (has_day (c ∷ rest) m.0 m.1) m.2
month_by a b c n rest false one e =
    let g = guarded _ _ n e in
    let t = and_parts _ _ g.0 in
    let u = and_parts _ _ t.0 in
    let m = mapped (λ m. suc (suc (suc m))) (day_len rest) n g.1 in
    month_two a b c n m.0 rest u.0 u.1 t.1 (has_day rest m.0 m.1) m.2

has_month : (bytes : List ℕ) (n : ℕ) → month_len bytes ≡ Some n → HasMonth bytes n
has_month [] n e = absurd (none-some n e)
has_month (a ∷ []) n e = absurd (none-some n e)
has_month (a ∷ b ∷ []) n e = absurd (none-some n e)
has_month (a ∷ b ∷ c ∷ rest) n e = month_by a b c n rest _ refl e

-- a date of so many bytes at the front
pub record DateAt (bytes : List ℕ) (n : ℕ) : Type 0 where
  pub front : List ℕ
  pub rest : List ℕ
  pub whole : bytes ≡ front ++ rest
  pub is : IsDate front
  pub all : TakesAll is.day rest
  pub len : n ≡ length front

date_of : (a b c d s n m : ℕ) (rest : List ℕ) → is_ascii_digit a ≡ true → is_ascii_digit b ≡ true → is_ascii_digit c ≡ true
    → is_ascii_digit d ≡ true → is_separator s ≡ true → HasMonth rest m → suc (suc (suc (suc (suc m)))) ≡ n
    → DateAt (a ∷ b ∷ c ∷ d ∷ s ∷ rest) n
date_of a b c d s n m rest da db dc dd sep h e =
    let lengths = length-append h.month (h.second ∷ h.day) in
    record {
      front = (a ∷ b ∷ c ∷ d ∷ []) ++ s ∷ (h.month ++ h.second ∷ h.day);
      rest = h.rest;
      whole = ap (λ x. a ∷ b ∷ c ∷ d ∷ s ∷ x) (h.whole ∙ sym (append_assoc h.month (h.second ∷ h.day) h.rest));
      is = record {
        year = a ∷ b ∷ c ∷ d ∷ [];
        first = s;
        month = h.month;
        second = h.second;
        day = h.day;
        whole = refl;
        is_year = four_digits a b c d da db dc dd;
        is_first = sep;
        is_month = h.is_month;
        is_second = h.is_second;
        is_day = h.is_day;
      };
      all = h.all;
      len = omega (arith, e, h.len, lengths);
    }

pub date_at : (bytes : List ℕ) (n : ℕ) → date_len bytes ≡ Some n → DateAt bytes n
date_at [] n e = absurd (none-some n e)
date_at (a ∷ []) n e = absurd (none-some n e)
date_at (a ∷ b ∷ []) n e = absurd (none-some n e)
date_at (a ∷ b ∷ c ∷ []) n e = absurd (none-some n e)
date_at (a ∷ b ∷ c ∷ d ∷ []) n e = absurd (none-some n e)
date_at (a ∷ b ∷ c ∷ d ∷ s ∷ rest) n e =
    let g = guarded _ _ n e in
    let t = and_parts _ _ g.0 in
    let u = and_parts _ _ t.0 in
    let v = and_parts _ _ u.0 in
    let w = and_parts _ _ u.1 in
    let m = mapped (λ m. suc (suc (suc (suc (suc m))))) (month_len rest) n g.1 in
    date_of a b c d s n m.0 rest v.0 v.1 w.0 w.1 t.1 (has_month rest m.0 m.1) m.2
