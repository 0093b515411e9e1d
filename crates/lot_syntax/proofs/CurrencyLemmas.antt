-- Words with commas between them, one after another.
use Rattle.std.proofs.Common.{◌≡◌, ℕ, suc, ◌<◌, ◌≤◌, cond, List, [], ◌∷◌, ◌++◌, map, length, Option, Some, None, refl, ap, ◌∙◌, sym, subst, arith, append_assoc, length-append}
use Rattle.std.specs.Prelude.{option_map, nat_le, flat_map}
use Rattle.std.proofs.lemmas.Bool.{le-leb, lt-leb, leb-true}
use Rattle.std.proofs.lemmas.List.{append-nil, map_push}
use Rattle.std.proofs.lemmas.Option.{cond_some, same_Some}
use Rattle.lot_command.specs.Currencies.{most_currencies}
use Rattle.lot_syntax.specs.declared.token.Mark.TheVariants as Marks
use Rattle.lot_syntax.specs.Token.{Lexeme, word, number, date, text, mark}
use Rattle.lot_syntax.specs.Form.{currency_tokens}
use Rattle.lot_syntax.specs.Shape.{◌>>=◌, as_word, after_comma}
use denote.Ref.{Bor}
use Rattle.lot_syntax.specs.Header.{seen_text, more_words, within_limit, currencies_by, currencies_at}
use Rattle.lot_syntax.proofs.PartLemmas.{bound, then_is, word_is, comma_is}

abbrev pub Words : Type 0
Words = List (List ℕ) × List Lexeme

-- words before those that are found
abbrev pub front : List (List ℕ) → Words → Words
front words found = (words ++ found.0, found.1)

-- ---- More words.

more_none : (rest : List Lexeme) → after_comma rest ≡ None → more_words rest ≡ Some ([], rest)
unfolding more_words
more_none [] e = refl
more_none (word w ∷ rest) e = refl
more_none (number n ∷ rest) e = refl
more_none (date d ∷ rest) e = refl
more_none (text t ∷ rest) e = refl
more_none (mark Marks.Comma ∷ rest) e = cc
more_none (mark Marks.Star ∷ rest) e = refl
more_none (mark Marks.Exclamation ∷ rest) e = refl
more_none (mark Marks.At ∷ rest) e = refl
more_none (mark Marks.AtAt ∷ rest) e = refl
more_none (mark Marks.Open ∷ rest) e = refl
more_none (mark Marks.OpenOpen ∷ rest) e = refl
more_none (mark Marks.Close ∷ rest) e = refl
more_none (mark Marks.CloseClose ∷ rest) e = refl

comma_word : (w : List ℕ) (after : List Lexeme)
    → more_words (mark Marks.Comma ∷ word w ∷ after) ≡ (more_words after >>= λ more. Some (w ∷ more.0, more.1))
unfolding more_words
comma_word w after = refl

comma_stop : (behind : List Lexeme) → as_word behind ≡ None → more_words (mark Marks.Comma ∷ behind) ≡ None
unfolding more_words
comma_stop [] e = refl
comma_stop (word w ∷ rest) e = cc
comma_stop (number n ∷ rest) e = refl
comma_stop (date d ∷ rest) e = refl
comma_stop (text t ∷ rest) e = refl
comma_stop (mark m ∷ rest) e = refl

-- ---- The words so far and those to come.

further : (words : List (List ℕ)) (w : List ℕ) (o : Option Words)
    → option_map (front words) (o >>= λ more. Some (w ∷ more.0, more.1)) ≡ option_map (front (words ++ w ∷ [])) o
further words w None = refl
further words w (Some found) = ap (λ (xs : List (List ℕ)). Some (xs, found.1)) (sym (append_assoc words (w ∷ []) found.0))

rest_is : (rest behind : List Lexeme) (found : List ℕ × List Lexeme) → after_comma rest ≡ Some behind → as_word behind ≡ Some found
    → rest ≡ mark Marks.Comma ∷ word found.0 ∷ found.1
rest_is rest behind found comma next = comma_is rest behind comma ∙ ap (λ x. mark Marks.Comma ∷ x) (word_is behind found next)

pub words_step : (words : List (List ℕ)) (rest behind : List Lexeme) (found : List ℕ × List Lexeme) (total : Option Words)
    → after_comma rest ≡ Some behind → as_word behind ≡ Some found → option_map (front words) (more_words rest) ≡ total
    → option_map (front (words ++ found.0 ∷ [])) (more_words found.1) ≡ total
words_step words rest behind found total comma next h =
    sym (further words found.0 (more_words found.1)) ∙ ap (option_map (front words)) (sym (comma_word found.0 found.1))
    ∙ ap (λ x. option_map (front words) (more_words x)) (sym (rest_is rest behind found comma next)) ∙ h

pub words_shorter : (rest behind : List Lexeme) (found : List ℕ × List Lexeme) → after_comma rest ≡ Some behind → as_word behind ≡ Some found
    → length found.1 < length rest
words_shorter rest behind found comma next = omega (arith, ap length (rest_is rest behind found comma next))

-- ---- What they come to.

limited : (first : List ℕ) (o : Option Words)
    → (o >>= λ more. within_limit (first ∷ more.0, more.1)) ≡ (option_map (front (first ∷ [])) o >>= within_limit)
limited first None = refl
limited first (Some more) = refl

pub currencies_are : (tokens : List Lexeme) (first : List ℕ × List Lexeme) → as_word tokens ≡ Some first
    → currencies_at tokens ≡ (option_map (front (first.0 ∷ [])) (more_words first.1) >>= within_limit)
unfolding currencies_at
currencies_are tokens first e = ap (currencies_by tokens) e ∙ limited first.0 (more_words first.1)

pub no_currency : (tokens : List Lexeme) → as_word tokens ≡ None → currencies_at tokens ≡ Some ([], tokens)
unfolding currencies_at
no_currency tokens e = ap (currencies_by tokens) e

-- no further comma: these are all
pub words_end : (words : List (List ℕ)) (rest : List Lexeme) (total : Option Words) → length words ≤ most_currencies → after_comma rest ≡ None
    → option_map (front words) (more_words rest) ≡ total → (total >>= within_limit) ≡ Some (words, rest)
words_end words rest total most comma h =
    let all : total ≡ Some (words, rest) =
    sym h ∙ ap (option_map (front words)) (more_none rest comma) ∙ ap (λ (xs : List (List ℕ)). Some (xs, rest)) (append-nil words) in
    ap (λ o. o >>= within_limit) all ∙ ap (λ b. cond b (Some (words, rest)) None) (le-leb (length words) most_currencies most)

-- a comma without a word
pub words_fail : (words : List (List ℕ)) (rest behind : List Lexeme) (total : Option Words) → after_comma rest ≡ Some behind
    → as_word behind ≡ None → option_map (front words) (more_words rest) ≡ total → (total >>= within_limit) ≡ None
words_fail words rest behind total comma next h =
    let none : total ≡ None =
    sym h ∙ ap (λ x. option_map (front words) (more_words x)) (comma_is rest behind comma) ∙ ap (option_map (front words)) (comma_stop behind next) in
    ap (λ o. o >>= within_limit) none

-- one word too many
over : (words : List (List ℕ)) (w : List ℕ) (o : Option Words) → length words ≡ most_currencies
    → (option_map (front (words ++ w ∷ [])) o >>= within_limit) ≡ None
over words w None full = refl
over words w (Some found) full =
    let len : most_currencies < length ((words ++ w ∷ []) ++ found.0) =
    omega (arith, length-append (words ++ w ∷ []) found.0, length-append words (w ∷ [])) in
    ap (λ b. cond b (Some ((words ++ w ∷ []) ++ found.0, found.1)) None) (lt-leb (length ((words ++ w ∷ []) ++ found.0)) most_currencies len)

pub words_over : (words : List (List ℕ)) (rest behind : List Lexeme) (found : List ℕ × List Lexeme) (total : Option Words)
    → length words ≡ most_currencies → after_comma rest ≡ Some behind → as_word behind ≡ Some found
    → option_map (front words) (more_words rest) ≡ total → (total >>= within_limit) ≡ None
words_over words rest behind found total full comma next h =
    ap (λ o. o >>= within_limit) (sym (words_step words rest behind found total comma next h)) ∙ over words found.0 (more_words found.1) full

-- ---- By the words of the program.

-- the words of those that are pushed
pub pushed : (items more : List (Bor (List ℕ))) (w : Bor (List ℕ)) → more ≡ items ++ w ∷ [] → map seen_text more ≡ map seen_text items ++ w.now ∷ []
pushed items more w e = ap (map seen_text) e ∙ map_push seen_text items w

pub one_word : (none one : List (Bor (List ℕ))) (w : Bor (List ℕ)) → none ≡ [] → one ≡ none ++ w ∷ [] → map seen_text one ≡ w.now ∷ []
one_word none one w e f = pushed none one w f ∙ ap (λ (x : List (Bor (List ℕ))). map seen_text x ++ w.now ∷ []) e

-- the currencies, where one word is pushed first
pub currencies_from : (tokens : List Lexeme) (none one : List (Bor (List ℕ))) (w : Bor (List ℕ)) (rest : List Lexeme) → none ≡ [] → one ≡ none ++ w ∷ []
    → as_word tokens ≡ Some (w.now, rest)
    → currencies_at tokens ≡ (option_map (front (map seen_text one)) (more_words rest) >>= within_limit)
currencies_from tokens none one w rest e f g =
    currencies_are tokens (w.now, rest) g
    ∙ ap (λ (x : List (List ℕ)). option_map (front x) (more_words rest) >>= within_limit) (sym (one_word none one w e f))

pub same_len : (items : List (Bor (List ℕ))) → length (map seen_text items) ≡ length items
same_len [] = refl
same_len (w ∷ items) = ap suc (same_len items)

-- ---- The words are those that stand there.

abbrev comma_words : List (List ℕ) → List Lexeme
comma_words words = flat_map (λ (w : List ℕ). mark Marks.Comma ∷ word w ∷ []) words

more_by : (w : List ℕ) (rest : List Lexeme) (found : Words) → ((more : Words) → more_words rest ≡ Some more → rest ≡ comma_words more.0 ++ more.1)
    → (more_words rest >>= λ more. Some (w ∷ more.0, more.1)) ≡ Some found
    → mark Marks.Comma ∷ word w ∷ rest ≡ comma_words found.0 ++ found.1
more_by w rest found each e =
    let t = bound (λ (more : Words). Some (w ∷ more.0, more.1)) (more_words rest) found e in
    ap (λ x. mark Marks.Comma ∷ word w ∷ x) (each t.0 t.1)
    ∙ ap (λ (x : Words). comma_words x.0 ++ x.1) (same_Some (w ∷ t.0.0, t.0.1) found t.2)

nothing_more : (tokens : List Lexeme) (found : Words) → Some ([], tokens) ≡ Some found → tokens ≡ comma_words found.0 ++ found.1
nothing_more tokens found e = ap (λ (x : Words). comma_words x.0 ++ x.1) (same_Some ([], tokens) found e)

more_are : (tokens : List Lexeme) (found : Words) → more_words tokens ≡ Some found → tokens ≡ comma_words found.0 ++ found.1
unfolding more_words
more_are [] found e = nothing_more [] found e
more_are (word w ∷ rest) found e = nothing_more (word w ∷ rest) found e
more_are (number n ∷ rest) found e = nothing_more (number n ∷ rest) found e
more_are (date d ∷ rest) found e = nothing_more (date d ∷ rest) found e
more_are (text t ∷ rest) found e = nothing_more (text t ∷ rest) found e
more_are (mark Marks.Comma ∷ []) found e = cc
more_are (mark Marks.Comma ∷ word w ∷ rest) found e = more_by w rest found (λ more f. more_are rest more f) e
more_are (mark Marks.Comma ∷ number n ∷ rest) found e = cc
more_are (mark Marks.Comma ∷ date d ∷ rest) found e = cc
more_are (mark Marks.Comma ∷ text t ∷ rest) found e = cc
more_are (mark Marks.Comma ∷ mark m ∷ rest) found e = cc
more_are (mark Marks.Star ∷ rest) found e = nothing_more (mark Marks.Star ∷ rest) found e
more_are (mark Marks.Exclamation ∷ rest) found e = nothing_more (mark Marks.Exclamation ∷ rest) found e
more_are (mark Marks.At ∷ rest) found e = nothing_more (mark Marks.At ∷ rest) found e
more_are (mark Marks.AtAt ∷ rest) found e = nothing_more (mark Marks.AtAt ∷ rest) found e
more_are (mark Marks.Open ∷ rest) found e = nothing_more (mark Marks.Open ∷ rest) found e
more_are (mark Marks.OpenOpen ∷ rest) found e = nothing_more (mark Marks.OpenOpen ∷ rest) found e
more_are (mark Marks.Close ∷ rest) found e = nothing_more (mark Marks.Close ∷ rest) found e
more_are (mark Marks.CloseClose ∷ rest) found e = nothing_more (mark Marks.CloseClose ∷ rest) found e

abbrev pub HasCurrencies : List Lexeme → Words → Type 0
HasCurrencies tokens found = (length found.0 ≤ most_currencies) × (tokens ≡ currency_tokens found.0 ++ found.1)

currencies_is_by : (tokens : List Lexeme) (found : Words) (o : Option (List ℕ × List Lexeme)) → as_word tokens ≡ o
    → currencies_by tokens o ≡ Some found → HasCurrencies tokens found
currencies_is_by tokens found None w e =
    subst (HasCurrencies tokens) (same_Some ([], tokens) found e) (omega arith, refl)
currencies_is_by tokens found (Some first) w e =
    let t = bound (λ (more : Words). within_limit (first.0 ∷ more.0, more.1)) (more_words first.1) found e in
    let k = cond_some (nat_le (length (first.0 ∷ t.0.0)) most_currencies) (first.0 ∷ t.0.0, t.0.1) found t.2 in
    subst (HasCurrencies tokens) k.1
    (leb-true (length (first.0 ∷ t.0.0)) most_currencies k.0, word_is tokens first w ∙ ap (λ x. word first.0 ∷ x) (more_are first.1 t.0 t.1))

pub currencies_stand : (tokens : List Lexeme) (found : Words) → currencies_at tokens ≡ Some found → HasCurrencies tokens found
unfolding currencies_at
currencies_stand tokens found e = currencies_is_by tokens found (as_word tokens) refl e

-- ---- What stands there is found, before a text or the end of the line.

more_found : (words : List (List ℕ)) (rest : List Lexeme) → after_comma rest ≡ None → more_words (comma_words words ++ rest) ≡ Some (words, rest)
more_found [] rest stop = more_none rest stop
more_found (w ∷ words) rest stop =
    comma_word w (comma_words words ++ rest)
    ∙ then_is (λ (more : Words). Some (w ∷ more.0, more.1)) (more_words (comma_words words ++ rest)) (words, rest) (more_found words rest stop)

pub currencies_found : (words : List (List ℕ)) (rest : List Lexeme) → length words ≤ most_currencies → after_comma rest ≡ None → as_word rest ≡ None
    → currencies_at (currency_tokens words ++ rest) ≡ Some (words, rest)
unfolding currencies_at
currencies_found [] rest most comma none = ap (currencies_by rest) none
currencies_found (w ∷ words) rest most comma none =
    then_is (λ (more : Words). within_limit (w ∷ more.0, more.1)) (more_words (comma_words words ++ rest)) (words, rest) (more_found words rest comma)
    ∙ ap (λ b. cond b (Some (w ∷ words, rest)) None) (le-leb (length (w ∷ words)) most_currencies most)
