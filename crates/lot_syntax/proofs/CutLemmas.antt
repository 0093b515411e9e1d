-- A line is cut into the tokens that it has, and can't be cut where it has none.
use Rattle.std.proofs.Common.{◌≡◌, ◌⊎◌, inl, inr, ℕ, zero, suc, ◌<◌, ◌≤◌, Bool, true, false, cond, List, [], ◌∷◌, ◌++◌, length, map, drop, Option, Some, None, Result, Ok, Err, refl, ap, ◌∙◌, sym, subst, arith, eqb, length-append}
use Rattle.std.specs.Prelude.{option_map}
use Rattle.std.specs.Option.{is_some}
use Rattle.std.specs.Result.{is_ok, is_err}
use Rattle.std.specs.List.{list_all}
use Rattle.std.proofs.lemmas.Bool.{or_cases, eqb-true, both_ways}
use Rattle.std.proofs.lemmas.List.{append-nil}
use Rattle.std.proofs.lemmas.Option.{same_Some, none-some}
use Rattle.lot_syntax.specs.declared.token.Mark.{Mark}
use Rattle.lot_syntax.specs.declared.token.Mark.TheVariants as Marks
use Rattle.lot_syntax.specs.declared.token.Token.{Token}
use Rattle.lot_syntax.specs.Token.{Lexeme, word, number, date, text, mark, is_blank, begins, IsWhole, IsNumber, IsDate, mark_bytes, spelled, Stands, HasNoToken, Cuts}
use Rattle.lot_syntax.specs.Cutting.{token_at, next_in, next_of, run, cut_on, cut_within, cut_of, cut_behind, given, lexeme_of}
use Rattle.lot_syntax.proofs.OptionLemmas.{mapped}
use Rattle.lot_syntax.proofs.RunLemmas.{run_found, HasRun, has_run, drop_front}
use Rattle.lot_syntax.proofs.TokenLemmas.{token_stands}
use Rattle.lot_syntax.proofs.FoundLemmas.{token_found}

-- ---- A token has a byte.

whole_some : (digits : List ℕ) → IsWhole digits → 1 ≤ length digits
whole_some [] h = absurd h
whole_some (b ∷ digits) h = omega arith

word_some : (w : List ℕ) (p : ℕ → Bool) → begins p w ≡ true → 1 ≤ length w
word_some [] p e = cc
word_some (b ∷ w) p e = omega arith

number_some : (bytes rest : List ℕ) → IsNumber bytes rest → 1 ≤ length bytes
number_some bytes rest n =
    omega (arith, ap length n.whole, length-append n.sign (n.digits ++ n.fraction), length-append n.digits n.fraction, whole_some n.digits n.is_digits)

date_some : (bytes : List ℕ) → IsDate bytes → 1 ≤ length bytes
date_some bytes d = omega (arith, ap length d.whole, length-append d.year (d.first ∷ (d.month ++ d.second ∷ d.day)))

mark_some : (m : Mark) → 1 ≤ length (mark_bytes m)
mark_some Marks.Comma = omega arith
mark_some Marks.Star = omega arith
mark_some Marks.Exclamation = omega arith
mark_some Marks.At = omega arith
mark_some Marks.AtAt = omega arith
mark_some Marks.Open = omega arith
mark_some Marks.OpenOpen = omega arith
mark_some Marks.Close = omega arith
mark_some Marks.CloseClose = omega arith

spelled_some : (token : Lexeme) (rest : List ℕ) → Stands token rest → 1 ≤ length (spelled token)
spelled_some (word w) rest h = word_some w _ h.0
spelled_some (number n) rest h = number_some n rest h.0
spelled_some (date d) rest h = date_some d h.0
spelled_some (text within) rest h = omega arith
spelled_some (mark m) rest h = mark_some m

-- ---- The next token.

-- the next token of a line, behind blanks
pub record NextAt (line : List ℕ) (found : Lexeme × List ℕ) : Type 0 where
  pub blanks : List ℕ
  pub all : list_all is_blank blanks ≡ true
  pub stands : Stands found.0 found.1
  pub whole : line ≡ blanks ++ (spelled found.0 ++ found.1)

next_rest : (line : List ℕ) (h : HasRun is_blank line) → next_of line ≡ next_in h.rest
unfolding next_of
next_rest line h = ap next_in (ap (λ n. drop n line) h.len ∙ ap (drop (length h.front)) h.whole ∙ drop_front h.front h.rest)

in_none : (rest : List ℕ) → next_in rest ≡ Some None → (rest ≡ []) ⊎ ((comment : List ℕ) × (rest ≡ 59 ∷ comment))
in_none [] e = inl refl
in_none (b ∷ rest) e = by (eqb b 59) refl e
  where
    mapped : (o : Option (Lexeme × List ℕ)) → option_map Some o ≡ Some None → ⊥
    mapped None e = cc
    mapped (Some x) e = cc

    by : (comment : Bool) → eqb b 59 ≡ comment → cond comment (Some None) (option_map Some (token_at (b ∷ rest))) ≡ Some None
        → (b ∷ rest ≡ []) ⊎ ((comment : List ℕ) × (b ∷ rest ≡ 59 ∷ comment))
    by true is e = inr (rest, ap (λ x. x ∷ rest) (eqb-true b 59 is))
    by false is e = absurd (mapped (token_at (b ∷ rest)) e)

pub next_none : (line : List ℕ) → next_of line ≡ Some None → HasNoToken line
next_none line e =
    let h = has_run is_blank line in
    elim (in_none h.rest (sym (next_rest line h) ∙ e)) [
      | inl none ↦ (h.front, [], h.all, inl (h.whole ∙ ap (λ x. h.front ++ x) none ∙ append-nil h.front))
      | inr found ↦ (h.front, found.0, h.all, inr (h.whole ∙ ap (λ x. h.front ++ x) found.1))
    ]

in_some : (rest : List ℕ) (found : Lexeme × List ℕ) → next_in rest ≡ Some (Some found) → token_at rest ≡ Some found
in_some [] found e = cc
in_some (b ∷ rest) found e = by (eqb b 59) e
  where
    mapped : (o : Option (Lexeme × List ℕ)) → option_map Some o ≡ Some (Some found) → o ≡ Some found
    mapped None e = cc
    mapped (Some x) e = same_Some (Some x) (Some found) e

    by : (comment : Bool) → cond comment (Some None) (option_map Some (token_at (b ∷ rest))) ≡ Some (Some found)
        → token_at (b ∷ rest) ≡ Some found
    by true e = cc
    by false e = mapped (token_at (b ∷ rest)) e

pub next_some : (line : List ℕ) (found : Lexeme × List ℕ) → next_of line ≡ Some (Some found) → NextAt line found
next_some line found e =
    let h = has_run is_blank line in
    let s = token_stands h.rest found (in_some h.rest found (sym (next_rest line h) ∙ e)) in
    record { blanks = h.front; all = h.all; stands = s.0; whole = h.whole ∙ ap (λ x. h.front ++ x) s.1 }

pub next_shorter : (line : List ℕ) (found : Lexeme × List ℕ) → next_of line ≡ Some (Some found) → length found.1 < length line
next_shorter line found e =
    let n = next_some line found e in
    omega (
      arith,
      ap length n.whole,
      length-append n.blanks (spelled found.0 ++ found.1),
      length-append (spelled found.0) found.1,
      spelled_some found.0 found.1 n.stands,
    )

-- ---- What stands there is next.

behind_blanks : (blanks rest : List ℕ) → list_all is_blank blanks ≡ true → begins is_blank rest ≡ false → next_of (blanks ++ rest) ≡ next_in rest
unfolding next_of
behind_blanks blanks rest all ends =
    ap next_in (ap (λ n. drop n (blanks ++ rest)) (run_found is_blank blanks rest all ends) ∙ drop_front blanks rest)

pub none_next : (line : List ℕ) → HasNoToken line → next_of line ≡ Some None
none_next line (blanks, comment, all, inl e) =
    ap next_of (e ∙ sym (append-nil blanks)) ∙ behind_blanks blanks [] all refl
none_next line (blanks, comment, all, inr e) = ap next_of e ∙ behind_blanks blanks (59 ∷ comment) all refl

blank_token : (b : ℕ) (rest : List ℕ) → is_blank b ≡ true → token_at (b ∷ rest) ≡ None
unfolding token_at
blank_token b rest e =
    elim (or_cases (eqb b 32) (eqb b 9) e) [
      | inl space ↦ subst (λ (x : ℕ). token_at (x ∷ rest) ≡ None) (sym (eqb-true b 32 space)) refl
      | inr tab ↦ subst (λ (x : ℕ). token_at (x ∷ rest) ≡ None) (sym (eqb-true b 9 tab)) refl
    ]

comment_token : (b : ℕ) (rest : List ℕ) → eqb b 59 ≡ true → token_at (b ∷ rest) ≡ None
unfolding token_at
comment_token b rest e = subst (λ (x : ℕ). token_at (x ∷ rest) ≡ None) (sym (eqb-true b 59 e)) refl

empty_token : token_at [] ≡ None
unfolding token_at
empty_token = refl

not_blank : (b : ℕ) (rest : List ℕ) (found : Lexeme × List ℕ) (t : Bool) → is_blank b ≡ t → token_at (b ∷ rest) ≡ Some found → t ≡ false
not_blank b rest found true e f = absurd (none-some found (sym (blank_token b rest e) ∙ f))
not_blank b rest found false e f = refl

not_comment : (b : ℕ) (rest : List ℕ) (found : Lexeme × List ℕ) (t : Bool) → eqb b 59 ≡ t → token_at (b ∷ rest) ≡ Some found
    → cond t (Some None) (option_map Some (token_at (b ∷ rest))) ≡ Some (Some found)
not_comment b rest found true e f = absurd (none-some found (sym (comment_token b rest e) ∙ f))
not_comment b rest found false e f = ap (option_map Some) f

-- where a token stands, no blank and no comment does
token_first : (bytes : List ℕ) (found : Lexeme × List ℕ) → token_at bytes ≡ Some found
    → (begins is_blank bytes ≡ false) × (next_in bytes ≡ Some (Some found))
token_first [] found e = absurd (none-some found (sym empty_token ∙ e))
token_first (b ∷ rest) found e = (not_blank b rest found (is_blank b) refl e, not_comment b rest found (eqb b 59) refl e)

pub some_next : (blanks rest : List ℕ) (token : Lexeme) → list_all is_blank blanks ≡ true → Stands token rest
    → next_of (blanks ++ (spelled token ++ rest)) ≡ Some (Some (token, rest))
some_next blanks rest token all stands =
    let first = token_first (spelled token ++ rest) (token, rest) (token_found token rest stands) in
    behind_blanks blanks (spelled token ++ rest) all first.0 ∙ first.1

-- ---- All tokens of a line.

on_none : (n : ℕ) (line : List ℕ) → next_of line ≡ Some None → cut_within n line ≡ Some []
unfolding cut_within
on_none zero line e = ap (cut_on (λ rest. None)) e
on_none (suc n) line e = ap (cut_on (λ rest. cut_within n rest)) e

on_some : (n : ℕ) (line : List ℕ) (found : Lexeme × List ℕ) → next_of line ≡ Some (Some found)
    → cut_within (suc n) line ≡ option_map (λ tokens. found.0 ∷ tokens) (cut_within n found.1)
unfolding cut_within
on_some n line found e = ap (cut_on (λ rest. cut_within n rest)) e

-- each token has a byte of the line
cuts_len : (tokens : List Lexeme) (line : List ℕ) → Cuts tokens line → length tokens ≤ length line
cuts_len [] line h = omega arith
cuts_len (token ∷ tokens) line (blanks, rest, all, stands, more, whole) =
    omega (
      arith,
      cuts_len tokens rest more,
      ap length whole,
      length-append blanks (spelled token ++ rest),
      length-append (spelled token) rest,
      spelled_some token rest stands,
    )

found_within : (n : ℕ) (tokens : List Lexeme) (line : List ℕ) → length tokens ≤ n → Cuts tokens line → cut_within n line ≡ Some tokens
found_within n [] line le h = on_none n line (none_next line h)
found_within zero (token ∷ tokens) line le h = absurd (omega arith)
found_within (suc n) (token ∷ tokens) line le (blanks, rest, all, stands, more, whole) =
    on_some n line (token, rest) (ap next_of whole ∙ some_next blanks rest token all stands)
    ∙ ap (option_map (λ others. token ∷ others)) (found_within n tokens rest (omega arith) more)

-- a line that has these tokens is cut into them
pub cuts_found : (tokens : List Lexeme) (line : List ℕ) → Cuts tokens line → cut_of line ≡ Some tokens
unfolding cut_of
cuts_found tokens line h = found_within (length line) tokens line (cuts_len tokens line h) h

none_on : (n : ℕ) (line : List ℕ) (tokens : List Lexeme) → next_of line ≡ None → cut_within n line ≡ Some tokens → ⊥
unfolding cut_within
none_on zero line tokens e f = none-some tokens (sym (ap (cut_on (λ rest. None)) e) ∙ f)
none_on (suc n) line tokens e f = none-some tokens (sym (ap (cut_on (λ rest. cut_within n rest)) e) ∙ f)

zero_on : (line : List ℕ) (tokens : List Lexeme) (found : Lexeme × List ℕ) → next_of line ≡ Some (Some found)
    → cut_within zero line ≡ Some tokens → ⊥
unfolding cut_within
zero_on line tokens found e f = none-some tokens (sym (ap (cut_on (λ rest. None)) e) ∙ f)

next_cuts : (line : List ℕ) (found : Lexeme × List ℕ) (tokens : List Lexeme) → NextAt line found → Cuts tokens found.1
    → Cuts (found.0 ∷ tokens) line
next_cuts line found tokens n more = (n.blanks, found.1, n.all, n.stands, more, n.whole)

more_by : (n : ℕ) (line : List ℕ) (tokens : List Lexeme) → cut_within (suc n) line ≡ Some tokens
    → ((rest : List ℕ) (ts : List Lexeme) → cut_within n rest ≡ Some ts → Cuts ts rest)
    → (next : Option (Option (Lexeme × List ℕ))) → next_of line ≡ next → Cuts tokens line
more_by n line tokens e more None f = absurd (none_on (suc n) line tokens f e)
more_by n line tokens e more (Some None) f =
    subst (λ (ts : List Lexeme). Cuts ts line) (same_Some [] tokens (sym (on_none (suc n) line f) ∙ e)) (next_none line f)
more_by n line tokens e more (Some (Some found)) f =
    let m = mapped (λ others. found.0 ∷ others) (cut_within n found.1) tokens (sym (on_some n line found f) ∙ e) in
    subst (λ (ts : List Lexeme). Cuts ts line) m.2 (next_cuts line found m.0 (next_some line found f) (more found.1 m.0 m.1))

within_cuts : (n : ℕ) (line : List ℕ) (tokens : List Lexeme) → cut_within n line ≡ Some tokens → Cuts tokens line
within_cuts zero line tokens e = zero_by (next_of line) refl
  where
    zero_by : (next : Option (Option (Lexeme × List ℕ))) → next_of line ≡ next → Cuts tokens line
    zero_by None f = absurd (none_on zero line tokens f e)
    zero_by (Some None) f =
        subst (λ (ts : List Lexeme). Cuts ts line) (same_Some [] tokens (sym (on_none zero line f) ∙ e)) (next_none line f)
    zero_by (Some (Some found)) f = absurd (zero_on line tokens found f e)
within_cuts (suc n) line tokens e = more_by n line tokens e (λ rest ts f. within_cuts n rest ts f) (next_of line) refl

-- a line that is cut has these tokens
pub found_cuts : (tokens : List Lexeme) (line : List ℕ) → cut_of line ≡ Some tokens → Cuts tokens line
unfolding cut_of
found_cuts tokens line e = within_cuts (length line) line tokens e

-- ---- One token after another.

-- a line that ends has no token
pub cut_end : (line : List ℕ) → next_of line ≡ Some None → cut_of line ≡ Some []
cut_end line e = cuts_found [] line (next_none line e)

cut_none_by : (line : List ℕ) (o : Option (List Lexeme)) → cut_of line ≡ o → next_of line ≡ None → o ≡ None
cut_none_by line None e f = refl
cut_none_by line (Some []) e f = absurd (none-some None (sym f ∙ none_next line (found_cuts [] line e)))
cut_none_by line (Some (token ∷ tokens)) e f =
    let (blanks, rest, all, stands, more, whole) = found_cuts (token ∷ tokens) line e in
    absurd (none-some (Some (token, rest)) (sym f ∙ ap next_of whole ∙ some_next blanks rest token all stands))

pub cut_none : (line : List ℕ) → next_of line ≡ None → cut_of line ≡ None
cut_none line e = cut_none_by line (cut_of line) refl e

-- behind the first token of a line stand the others
pub record Follows (tokens : List Lexeme) (found : Lexeme × List ℕ) : Type 0 where
  pub others : List Lexeme
  pub whole : tokens ≡ found.0 ∷ others
  pub cut : cut_of found.1 ≡ Some others

pub cut_follows : (line : List ℕ) (found : Lexeme × List ℕ) (tokens : List Lexeme) → next_of line ≡ Some (Some found)
    → cut_of line ≡ Some tokens → Follows tokens found
cut_follows line found [] e f = absurd (none-some found (same_Some None (Some found) (sym (none_next line (found_cuts [] line f)) ∙ e)))
cut_follows line found (token ∷ tokens) e f =
    let (blanks, rest, all, stands, more, whole) = found_cuts (token ∷ tokens) line f in
    let first : Some (token, rest) ≡ Some found = same_Some _ _ (sym (ap next_of whole ∙ some_next blanks rest token all stands) ∙ e) in
    let same = same_Some (token, rest) found first in
    record {
      others = tokens;
      whole = ap (λ (x : Lexeme × List ℕ). x.0 ∷ tokens) same;
      cut = subst (λ (x : Lexeme × List ℕ). cut_of x.1 ≡ Some tokens) same (cuts_found tokens rest more);
    }

same_by : (line : List ℕ) (found : Lexeme × List ℕ) (a b : Option (List Lexeme)) → next_of line ≡ Some (Some found)
    → cut_of found.1 ≡ a → cut_of line ≡ b → is_some a ≡ is_some b
same_by line found None None n e f = refl
same_by line found None (Some tokens) n e f = absurd (none-some _ (sym e ∙ (cut_follows line found tokens n f).cut))
same_by line found (Some tokens) None n e f =
    absurd (none-some _ (sym f ∙ cuts_found (found.0 ∷ tokens) line (next_cuts line found tokens (next_some line found n) (found_cuts tokens found.1 e))))
same_by line found (Some tokens) (Some others) n e f = refl

-- a line can be cut exactly where what stands behind its first token can
pub same_cut : (line : List ℕ) (found : Lexeme × List ℕ) → next_of line ≡ Some (Some found)
    → is_some (cut_of found.1) ≡ is_some (cut_of line)
same_cut line found n = same_by line found _ _ n refl refl

-- what a line that can be cut has
pub cut_given : (line : List ℕ) → is_some (cut_of line) ≡ true → cut_of line ≡ Some (given (cut_of line))
cut_given line e = by (cut_of line) e
  where
    by : (o : Option (List Lexeme)) → is_some o ≡ true → o ≡ Some (given o)
    by None e = cc
    by (Some tokens) e = refl

pub given_cuts : (line : List ℕ) → is_some (cut_of line) ≡ true → Cuts (given (cut_of line)) line
given_cuts line e = found_cuts _ line (cut_given line e)

pub uncut : (line : List ℕ) (tokens : List Lexeme) → is_some (cut_of line) ≡ false → Cuts tokens line → ⊥
uncut line tokens e h = both_ways (is_some (cut_of line)) e (ap is_some (cuts_found tokens line h))

-- ---- The first token, and those behind it.

pub record Splits (line : List ℕ) (found : Lexeme × List ℕ) : Type 0 where
  pub cut : is_some (cut_of found.1) ≡ true
  pub whole : given (cut_of line) ≡ found.0 ∷ given (cut_of found.1)

pub splits : (line : List ℕ) (found : Lexeme × List ℕ) → is_some (cut_of line) ≡ true → next_of line ≡ Some (Some found) → Splits line found
splits line found e n =
    let f = cut_follows line found _ n (cut_given line e) in
    record {
      cut = ap is_some f.cut;
      whole = f.whole ∙ ap (λ o. found.0 ∷ given o) (sym f.cut);
    }

pub ends : (line : List ℕ) → next_of line ≡ Some None → given (cut_of line) ≡ []
ends line n = ap given (cut_end line n)

pub cut_false : (line : List ℕ) → next_of line ≡ None → is_some (cut_of line) ≡ false
cut_false line n = ap is_some (cut_none line n)

pub cut_true : (line : List ℕ) → next_of line ≡ Some None → is_some (cut_of line) ≡ true
cut_true line n = ap is_some (cut_end line n)

next_empty : next_of [] ≡ Some None
unfolding next_of run
next_empty = refl

-- an empty line has no token
pub cut_empty : cut_of [] ≡ Some []
cut_empty = cut_end [] next_empty

-- ---- Tokens that are kept, and those behind them.

-- what a vector has behind a push
pub pushed_ok : {U E : Type 0} (r : Result U E) (before more after : List Token) → after ≡ cond (is_ok r) more before
    → is_err r ≡ false → after ≡ more
pushed_ok (Ok u) before more after e h = e
pushed_ok (Err u) before more after e h = cc

one_more : (first : List Token) (token : Token) (left : List Lexeme)
    → map lexeme_of (first ++ token ∷ []) ++ left ≡ map lexeme_of first ++ lexeme_of token ∷ left
one_more [] token left = refl
one_more (t ∷ first) token left = ap (λ tokens. lexeme_of t ∷ tokens) (one_more first token left)

-- with the next token the tokens of the line are still the same
pub one_more_cut : (first after : List Token) (token : Token) (rest behind line : List ℕ) → after ≡ first ++ token ∷ []
    → next_of rest ≡ Some (Some (lexeme_of token, behind)) → is_some (cut_of rest) ≡ is_some (cut_of line)
    → (is_some (cut_of line) ≡ true → cut_behind first rest ≡ given (cut_of line))
    → is_some (cut_of line) ≡ true → cut_behind after behind ≡ given (cut_of line)
one_more_cut first after token rest behind line pushed next same so_far cut =
    let s = splits rest (lexeme_of token, behind) (same ∙ cut) next in
    ap (λ tokens. cut_behind tokens behind) pushed
    ∙ (one_more first token (given (cut_of behind)) ∙ (ap (λ tokens. map lexeme_of first ++ tokens) (sym s.whole) ∙ so_far cut))

-- ---- Laws.

cut_by : (line : List ℕ) (o : Option (List Lexeme)) → cut_of line ≡ o
    → ((tokens : List Lexeme) × Cuts tokens line) ⊎ ((tokens : List Lexeme) → Cuts tokens line → ⊥)
cut_by line None e = inr (λ tokens h. none-some tokens (sym e ∙ cuts_found tokens line h))
cut_by line (Some tokens) e = inl (tokens, found_cuts tokens line e)

pub cut_or_not : (line : List ℕ) → ((tokens : List Lexeme) × Cuts tokens line) ⊎ ((tokens : List Lexeme) → Cuts tokens line → ⊥)
cut_or_not line = cut_by line (cut_of line) refl

pub one_cut : (line : List ℕ) (a b : List Lexeme) → Cuts a line → Cuts b line → a ≡ b
one_cut line a b h k = same_Some a b (sym (cuts_found a line h) ∙ cuts_found b line k)
