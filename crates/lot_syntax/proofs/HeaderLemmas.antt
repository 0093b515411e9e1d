-- The parts of a line that isn't indented are those whose form its tokens have.
use Rattle.std.proofs.Common.{◌≡◌, inl, inr, ℕ, ◌≤◌, Bool, true, false, cond, List, [], ◌∷◌, ◌++◌, length, Option, Some, None, refl, ap, ◌∙◌, sym, subst}
use Rattle.std.specs.Prelude.{◌≢◌, ◌⊎◌, MatchResult, IfOk, OnErr, IsErrOf, codes, Result, Ok, Err}
use Rattle.std.specs.Cmp.Lexicographic.{bytes_decides}
use Rattle.std.proofs.lemmas.Option.{cond_some, same_Some}
use Rattle.lot_command.specs.Currencies.{most_currencies}
use Rattle.lot_command.specs.declared.transaction.Flag.{Flag}
use Rattle.lot_command.specs.declared.transaction.Flag.TheVariants.{Complete, Incomplete}
use Rattle.lot_syntax.specs.declared.fault.FormFault.{FormFault}
use Rattle.lot_syntax.specs.declared.fault.FormFault.TheVariants.{UnknownDirective, Syntax}
use Rattle.lot_syntax.specs.declared.token.Mark.TheVariants as Marks
use Rattle.lot_syntax.specs.Token.{Lexeme, word, number, date, text, mark}
use Rattle.lot_syntax.specs.Form.{Directive, opening, closing, declaring, quoting, transaction, currency_tokens, note_tokens, perhaps, IsFlag, IsDirective, IsHeader, NamesDirective, IsUnknown}
use Rattle.lot_syntax.specs.Shape.{◌>>=◌, is_empty, as_word, as_number}
use Rattle.lot_syntax.specs.declared.form.HeaderForm.{HeaderForm}
use Rattle.lot_syntax.specs.Header.{header_seen, directive_seen, as_text, last_word, currencies_at, last_text, opening_of, closing_of, declaring_of, quoting_of, notes_by, notes_of, transaction_of, fitting, same, named, directive_of, with_day, header_of}
use Rattle.lot_syntax.proofs.PartLemmas.{bound, nothing, then_is, word_is, number_is}
use Rattle.lot_syntax.proofs.CurrencyLemmas.{Words, currencies_stand, currencies_found}

-- ---- Texts and words at the end of a line.

text_is : (tokens : List Lexeme) (found : List ℕ × List Lexeme) → as_text tokens ≡ Some found → tokens ≡ text found.0 ∷ found.1
text_is [] found e = cc
text_is (word w ∷ rest) found e = cc
text_is (number n ∷ rest) found e = cc
text_is (date d ∷ rest) found e = cc
text_is (text t ∷ rest) found e = ap (λ (x : List ℕ × List Lexeme). text x.0 ∷ x.1) (same_Some (t, rest) found e)
text_is (mark m ∷ rest) found e = cc

last_word_is : (tokens : List Lexeme) (w : List ℕ) → last_word tokens ≡ Some w → tokens ≡ word w ∷ []
last_word_is tokens w e =
    let t = bound (λ (x : List ℕ × List Lexeme). cond (is_empty x.1) (Some x.0) None) (as_word tokens) w e in
    let k = cond_some (is_empty t.0.1) t.0.0 w t.2 in
    word_is tokens t.0 t.1 ∙ ap (λ x. word t.0.0 ∷ x) (nothing t.0.1 k.0) ∙ ap (λ x. word x ∷ []) k.1

last_text_is : (tokens : List Lexeme) (found : Option (List ℕ)) → last_text tokens ≡ Some found
    → tokens ≡ perhaps (λ (t : List ℕ). text t ∷ []) found
last_text_is [] found e = ap (perhaps (λ (t : List ℕ). text t ∷ [])) (same_Some None found e)
last_text_is (token ∷ rest) found e =
    let t = bound (λ (x : List ℕ × List Lexeme). cond (is_empty x.1) (Some (Some x.0)) None) (as_text (token ∷ rest)) found e in
    let k = cond_some (is_empty t.0.1) (Some t.0.0) found t.2 in
    text_is (token ∷ rest) t.0 t.1 ∙ ap (λ x. text t.0.0 ∷ x) (nothing t.0.1 k.0) ∙ ap (perhaps (λ (x : List ℕ). text x ∷ [])) k.1

abbrev Notes : Type 0
Notes = Option (List ℕ) × List ℕ

notes_by_is : (first : List ℕ) (tokens : List Lexeme) (found : Option Notes) → notes_by first tokens ≡ Some found
    → text first ∷ tokens ≡ perhaps note_tokens found
notes_by_is first [] found e = ap (perhaps note_tokens) (same_Some (Some (None, first)) found e)
notes_by_is first (token ∷ rest) found e =
    let t = bound (λ (x : List ℕ × List Lexeme). cond (is_empty x.1) (Some (Some (Some first, x.0))) None) (as_text (token ∷ rest)) found e in
    let k = cond_some (is_empty t.0.1) (Some (Some first, t.0.0)) found t.2 in
    ap (λ x. text first ∷ x) (text_is (token ∷ rest) t.0 t.1 ∙ ap (λ x. text t.0.0 ∷ x) (nothing t.0.1 k.0)) ∙ ap (perhaps note_tokens) k.1

notes_are : (tokens : List Lexeme) (found : Option Notes) → notes_of tokens ≡ Some found → tokens ≡ perhaps note_tokens found
notes_are [] found e = ap (perhaps note_tokens) (same_Some None found e)
notes_are (token ∷ rest) found e =
    let t = bound (λ (x : List ℕ × List Lexeme). notes_by x.0 x.1) (as_text (token ∷ rest)) found e in
    text_is (token ∷ rest) t.0 t.1 ∙ notes_by_is t.0.0 t.0.1 found t.2

notes_found : (notes : Option Notes) → notes_of (perhaps note_tokens notes) ≡ Some notes
notes_found None = refl
notes_found (Some (None, narration)) = refl
notes_found (Some (Some payee, narration)) = refl

-- ---- Each directive is what stands there.

opening_is : (rest : List Lexeme) (directive : Directive) → opening_of rest ≡ Some directive → IsDirective (word (codes "open") ∷ rest) directive
unfolding opening_of
opening_is rest directive e =
    let t = bound (λ (a : List ℕ × List Lexeme). currencies_at a.1 >>= λ cs. last_text cs.1 >>= λ m. Some (opening a.0 cs.0 m)) (as_word rest) directive e in
    let u = bound (λ (cs : Words). last_text cs.1 >>= λ m. Some (opening t.0.0 cs.0 m)) (currencies_at t.0.1) directive t.2 in
    let v = bound (λ (m : Option (List ℕ)). Some (opening t.0.0 u.0.0 m)) (last_text u.0.1) directive u.2 in
    let cs = currencies_stand t.0.1 u.0 u.1 in
    subst (IsDirective (word (codes "open") ∷ rest)) (same_Some (opening t.0.0 u.0.0 v.0) directive v.2) (
      cs.0,
      ap (λ x. word (codes "open") ∷ x) (word_is rest t.0 t.1
          ∙ ap (λ x. word t.0.0 ∷ x) (cs.1 ∙ ap (λ x. currency_tokens u.0.0 ++ x) (last_text_is u.0.1 v.0 v.1))),
    )

closing_is : (rest : List Lexeme) (directive : Directive) → closing_of rest ≡ Some directive → IsDirective (word (codes "close") ∷ rest) directive
unfolding closing_of
closing_is rest directive e =
    let t = bound (λ (a : List ℕ). Some (closing a)) (last_word rest) directive e in
    subst (IsDirective (word (codes "close") ∷ rest)) (same_Some (closing t.0) directive t.2)
    (ap (λ x. word (codes "close") ∷ x) (last_word_is rest t.0 t.1))

declaring_is : (rest : List Lexeme) (directive : Directive) → declaring_of rest ≡ Some directive
    → IsDirective (word (codes "commodity") ∷ rest) directive
unfolding declaring_of
declaring_is rest directive e =
    let t = bound (λ (a : List ℕ). Some (declaring a)) (last_word rest) directive e in
    subst (IsDirective (word (codes "commodity") ∷ rest)) (same_Some (declaring t.0) directive t.2)
    (ap (λ x. word (codes "commodity") ∷ x) (last_word_is rest t.0 t.1))

quoting_is : (rest : List Lexeme) (directive : Directive) → quoting_of rest ≡ Some directive → IsDirective (word (codes "price") ∷ rest) directive
unfolding quoting_of
quoting_is rest directive e =
    let t = bound (λ (b : List ℕ × List Lexeme). as_number b.1 >>= λ r. last_word r.1 >>= λ q. Some (quoting b.0 r.0 q)) (as_word rest) directive e in
    let u = bound (λ (r : List ℕ × List Lexeme). last_word r.1 >>= λ q. Some (quoting t.0.0 r.0 q)) (as_number t.0.1) directive t.2 in
    let v = bound (λ (q : List ℕ). Some (quoting t.0.0 u.0.0 q)) (last_word u.0.1) directive u.2 in
    subst (IsDirective (word (codes "price") ∷ rest)) (same_Some (quoting t.0.0 u.0.0 v.0) directive v.2)
    (ap (λ x. word (codes "price") ∷ x) (word_is rest t.0 t.1
    ∙ ap (λ x. word t.0.0 ∷ x) (number_is t.0.1 u.0 u.1 ∙ ap (λ x. number u.0.0 ∷ x) (last_word_is u.0.1 v.0 v.1))))

transaction_is : (token : Lexeme) (flag : Flag) (rest : List Lexeme) (directive : Directive) → IsFlag token flag
    → transaction_of flag rest ≡ Some directive → IsDirective (token ∷ rest) directive
unfolding transaction_of
transaction_is token flag rest directive is e =
    let t = bound (λ (n : Option Notes). Some (transaction flag n)) (notes_of rest) directive e in
    subst (IsDirective (token ∷ rest)) (same_Some (transaction flag t.0) directive t.2)
    (token, is, ap (λ x. token ∷ x) (notes_are rest t.0 t.1))

-- ---- The directive of a word.

fitted : (o : Option Directive) (directive : Directive) → fitting o ≡ Ok directive → o ≡ Some directive
fitted None directive e = cc
fitted (Some x) directive e = cc

-- what a test of a word chooses
chosen : (P : Type 0) (b : Bool) (x y : Result Directive FormFault) (r : Result Directive FormFault) → cond b x y ≡ r
    → (b ≡ true → x ≡ r → P) → (b ≡ false → y ≡ r → P) → P
chosen P true x y r e yes' no' = yes' refl e
chosen P false x y r e yes' no' = no' refl e

is_word : (w name : List ℕ) → same w name ≡ true → w ≡ name
is_word w name e = (bytes_decides w name).0 e

put_word : (w name : List ℕ) (rest : List Lexeme) (directive : Directive) → same w name ≡ true → IsDirective (word name ∷ rest) directive
    → IsDirective (word w ∷ rest) directive
put_word w name rest directive e h = subst (λ (x : List ℕ). IsDirective (word x ∷ rest) directive) (sym (is_word w name e)) h

named_is : (w : List ℕ) (rest : List Lexeme) (directive : Directive) → named w rest ≡ Ok directive → IsDirective (word w ∷ rest) directive
unfolding named
named_is w rest directive e =
    let P = IsDirective (word w ∷ rest) directive in
    chosen P (same w (codes "open")) _ _ (Ok directive) e
    (λ t f. put_word w (codes "open") rest directive t (opening_is rest directive (fitted _ directive f)))
    (λ n1 e1. chosen P (same w (codes "close")) _ _ (Ok directive) e1
    (λ t f. put_word w (codes "close") rest directive t (closing_is rest directive (fitted _ directive f)))
    (λ n2 e2. chosen P (same w (codes "commodity")) _ _ (Ok directive) e2
    (λ t f. put_word w (codes "commodity") rest directive t (declaring_is rest directive (fitted _ directive f)))
    (λ n3 e3. chosen P (same w (codes "price")) _ _ (Ok directive) e3
    (λ t f. put_word w (codes "price") rest directive t (quoting_is rest directive (fitted _ directive f)))
    (λ n4 e4. chosen P (same w (codes "txn")) _ _ (Ok directive) e4
    (λ t f. put_word w (codes "txn") rest directive t
    (transaction_is (word (codes "txn")) Complete rest directive (inr refl) (fitted _ directive f)))
    (λ n5 e5. absurd cc)))))

directive_is : (tokens : List Lexeme) (directive : Directive) → directive_of tokens ≡ Ok directive → IsDirective tokens directive
unfolding directive_of
directive_is [] directive e = cc
directive_is (word w ∷ rest) directive e = named_is w rest directive e
directive_is (number n ∷ rest) directive e = cc
directive_is (date d ∷ rest) directive e = cc
directive_is (text t ∷ rest) directive e = cc
directive_is (mark Marks.Comma ∷ rest) directive e = cc
directive_is (mark Marks.Star ∷ rest) directive e =
    transaction_is (mark Marks.Star) Complete rest directive (inl refl) (fitted (transaction_of Complete rest) directive e)
directive_is (mark Marks.Exclamation ∷ rest) directive e =
    transaction_is (mark Marks.Exclamation) Incomplete rest directive refl (fitted (transaction_of Incomplete rest) directive e)
directive_is (mark Marks.At ∷ rest) directive e = cc
directive_is (mark Marks.AtAt ∷ rest) directive e = cc
directive_is (mark Marks.Open ∷ rest) directive e = cc
directive_is (mark Marks.OpenOpen ∷ rest) directive e = cc
directive_is (mark Marks.Close ∷ rest) directive e = cc
directive_is (mark Marks.CloseClose ∷ rest) directive e = cc

abbrev pub Header : Type 0
Header = List ℕ × Directive

abbrev IsHeaderOf : List Lexeme → Header → Type 0
IsHeaderOf tokens header = IsHeader tokens header.0 header.1

abbrev ok : Header → Result Header FormFault
ok header = Ok header

ok_is : (x y : Header) → ok x ≡ ok y → x ≡ y
ok_is x y e = cc

with_day_is : (d : List ℕ) (rest : List Lexeme) (header : Header) (o : Result Directive FormFault) → directive_of rest ≡ o → with_day d o ≡ Ok header
    → IsHeaderOf (date d ∷ rest) header
with_day_is d rest header (Ok directive) f e =
    subst (IsHeaderOf (date d ∷ rest)) (ok_is (d, directive) header e) (rest, directive_is rest directive f, refl)
with_day_is d rest header (Err fault) f e = cc

-- what is taken stands there
pub header_is : (tokens : List Lexeme) (header : Header) → header_of tokens ≡ Ok header → IsHeaderOf tokens header
unfolding header_of
header_is [] header e = cc
header_is (word w ∷ rest) header e = cc
header_is (number n ∷ rest) header e = cc
header_is (date d ∷ rest) header e = with_day_is d rest header (directive_of rest) refl e
header_is (text t ∷ rest) header e = cc
header_is (mark m ∷ rest) header e = cc

-- ---- What stands there is taken.

before_method : (method : Option (List ℕ)) → last_text (perhaps (λ (t : List ℕ). text t ∷ []) method) ≡ Some method
before_method None = refl
before_method (Some t) = refl

currencies_before : (words : List (List ℕ)) (method : Option (List ℕ)) → length words ≤ most_currencies
    → currencies_at (currency_tokens words ++ perhaps (λ (t : List ℕ). text t ∷ []) method)
    ≡ Some (words, perhaps (λ (t : List ℕ). text t ∷ []) method)
currencies_before words None most = currencies_found words [] most refl refl
currencies_before words (Some t) most = currencies_found words (text t ∷ []) most refl refl

opening_found : (account : List ℕ) (words : List (List ℕ)) (method : Option (List ℕ)) → length words ≤ most_currencies
    → opening_of (word account ∷ (currency_tokens words ++ perhaps (λ (t : List ℕ). text t ∷ []) method)) ≡ Some (opening account words method)
unfolding opening_of
opening_found account words method most =
    then_is (λ (cs : Words). last_text cs.1 >>= λ m. Some (opening account cs.0 m))
    (currencies_at (currency_tokens words ++ perhaps (λ (t : List ℕ). text t ∷ []) method)) (words, perhaps (λ (t : List ℕ). text t ∷ []) method)
    (currencies_before words method most)
    ∙ then_is (λ (m : Option (List ℕ)). Some (opening account words m)) (last_text (perhaps (λ (t : List ℕ). text t ∷ []) method)) method
    (before_method method)

transaction_found : (flag : Flag) (notes : Option Notes) → transaction_of flag (perhaps note_tokens notes) ≡ Some (transaction flag notes)
unfolding transaction_of
transaction_found flag notes = then_is (λ (n : Option Notes). Some (transaction flag n)) (notes_of (perhaps note_tokens notes)) notes (notes_found notes)

flagged : (token : Lexeme) (flag : Flag) (rest : List Lexeme) → IsFlag token flag → directive_of (token ∷ rest) ≡ fitting (transaction_of flag rest)
unfolding directive_of named
flagged token Complete rest (inl e) = ap (λ x. directive_of (x ∷ rest)) e
flagged token Complete rest (inr e) = ap (λ x. directive_of (x ∷ rest)) e
flagged token Incomplete rest e = ap (λ x. directive_of (x ∷ rest)) e

directive_found : (tokens : List Lexeme) (directive : Directive) → IsDirective tokens directive → directive_of tokens ≡ Ok directive
unfolding directive_of named closing_of declaring_of quoting_of
directive_found tokens (opening account words method) (most, e) = ap directive_of e ∙ ap fitting (opening_found account words method most)
directive_found tokens (closing account) e = ap directive_of e
directive_found tokens (declaring commodity) e = ap directive_of e
directive_found tokens (quoting base rate quote) e = ap directive_of e
directive_found tokens (transaction flag notes) (token, is, e) =
    ap directive_of e ∙ flagged token flag (perhaps note_tokens notes) is ∙ ap fitting (transaction_found flag notes)

pub header_found : (tokens : List Lexeme) (header : Header) → IsHeaderOf tokens header → header_of tokens ≡ Ok header
unfolding header_of
header_found tokens header (rest, is, e) = ap header_of e ∙ ap (with_day header.0) (directive_found rest header.1 is)

-- ---- Lines that are no directive.

never : (o : Option Directive) → fitting o ≡ Err UnknownDirective → ⊥
never None e = cc
never (Some x) e = cc

names_known : (token : Lexeme) (rest : List Lexeme) → NamesDirective token → directive_of (token ∷ rest) ≡ Err UnknownDirective → ⊥
unfolding directive_of named
names_known token rest (inl e) f = never (opening_of rest) (sym (ap (λ x. directive_of (x ∷ rest)) e) ∙ f)
names_known token rest (inr (inl e)) f = never (closing_of rest) (sym (ap (λ x. directive_of (x ∷ rest)) e) ∙ f)
names_known token rest (inr (inr (inl e))) f = never (declaring_of rest) (sym (ap (λ x. directive_of (x ∷ rest)) e) ∙ f)
names_known token rest (inr (inr (inr (inl e)))) f = never (quoting_of rest) (sym (ap (λ x. directive_of (x ∷ rest)) e) ∙ f)
names_known token rest (inr (inr (inr (inr (inl e))))) f = never (transaction_of Complete rest) (sym (ap (λ x. directive_of (x ∷ rest)) e) ∙ f)
names_known token rest (inr (inr (inr (inr (inr (inl e)))))) f = never (transaction_of Incomplete rest) (sym (ap (λ x. directive_of (x ∷ rest)) e) ∙ f)
names_known token rest (inr (inr (inr (inr (inr (inr e)))))) f = never (transaction_of Complete rest) (sym (ap (λ x. directive_of (x ∷ rest)) e) ∙ f)

err_of : (d : List ℕ) (o : Result Directive FormFault) (fault : FormFault) → with_day d o ≡ Err fault → o ≡ Err fault
err_of d (Ok directive) fault e = cc
err_of d (Err other) fault e = cc

abbrev IsSome' : List Lexeme → Type 0
IsSome' [] = ⊥
IsSome' (token ∷ rest) = Unit {0}

empty_day : (d : List ℕ) → header_of (date d ∷ []) ≡ Err UnknownDirective → ⊥
unfolding header_of directive_of
empty_day d e = cc

pub unknown_is : (tokens : List Lexeme) → IsSome' tokens → header_of tokens ≡ Err UnknownDirective → IsUnknown tokens
unfolding header_of
unknown_is [] some e = some
unknown_is (word w ∷ rest) some e = tt
unknown_is (number n ∷ rest) some e = tt
unknown_is (date d ∷ []) some e = empty_day d e
unknown_is (date d ∷ second ∷ rest) some e = λ names. names_known second rest names (err_of d (directive_of (second ∷ rest)) UnknownDirective e)
unknown_is (text t ∷ rest) some e = tt
unknown_is (mark m ∷ rest) some e = tt

-- a directive behind a day
word_names : (w : List ℕ) (rest : List Lexeme) (r : Result Directive FormFault) → named w rest ≡ r → (r ≡ Err UnknownDirective → ⊥) → NamesDirective (word w)
unfolding named
word_names w rest r e known =
    let P = NamesDirective (word w) in
    chosen P (same w (codes "open")) _ _ r e (λ t f. inl (ap word (is_word w (codes "open") t)))
    (λ n1 e1. chosen P (same w (codes "close")) _ _ r e1 (λ t f. inr (inl (ap word (is_word w (codes "close") t))))
    (λ n2 e2. chosen P (same w (codes "commodity")) _ _ r e2 (λ t f. inr (inr (inl (ap word (is_word w (codes "commodity") t)))))
    (λ n3 e3. chosen P (same w (codes "price")) _ _ r e3 (λ t f. inr (inr (inr (inl (ap word (is_word w (codes "price") t))))))
    (λ n4 e4. chosen P (same w (codes "txn")) _ _ r e4 (λ t f. inr (inr (inr (inr (inr (inr (ap word (is_word w (codes "txn") t))))))))
    (λ n5 e5. absurd (known (sym e5)))))))

token_names : (token : Lexeme) (rest : List Lexeme) (r : Result Directive FormFault) → directive_of (token ∷ rest) ≡ r
    → (r ≡ Err UnknownDirective → ⊥) → NamesDirective token
unfolding directive_of
token_names (word w) rest r e known = word_names w rest r e known
token_names (number n) rest r e known = absurd (known (sym e))
token_names (date d) rest r e known = absurd (known (sym e))
token_names (text t) rest r e known = absurd (known (sym e))
token_names (mark Marks.Comma) rest r e known = absurd (known (sym e))
token_names (mark Marks.Star) rest r e known = inr (inr (inr (inr (inl refl))))
token_names (mark Marks.Exclamation) rest r e known = inr (inr (inr (inr (inr (inl refl)))))
token_names (mark Marks.At) rest r e known = absurd (known (sym e))
token_names (mark Marks.AtAt) rest r e known = absurd (known (sym e))
token_names (mark Marks.Open) rest r e known = absurd (known (sym e))
token_names (mark Marks.OpenOpen) rest r e known = absurd (known (sym e))
token_names (mark Marks.Close) rest r e known = absurd (known (sym e))
token_names (mark Marks.CloseClose) rest r e known = absurd (known (sym e))

abbrev failed : FormFault → Result Directive FormFault
failed fault = Err fault

syntax_known : (d : List ℕ) (o : Result Directive FormFault) → with_day d o ≡ Err Syntax → o ≡ Err UnknownDirective → ⊥
syntax_known d (Ok directive) e f = cc
syntax_known d (Err fault) e f = clash fault (err_of d (Err fault) Syntax e) f
  where
    clash : (fault : FormFault) → failed fault ≡ failed Syntax → failed fault ≡ failed UnknownDirective → ⊥
    clash Syntax e f = cc
    clash UnknownDirective e f = cc

-- a line that is a directive but has none of the forms
pub known_is : (tokens : List Lexeme) → header_of tokens ≡ Err Syntax → IsUnknown tokens → ⊥
unfolding header_of
known_is [] e h = h
known_is (word w ∷ rest) e h = cc
known_is (number n ∷ rest) e h = cc
known_is (date d ∷ []) e h = h
known_is (date d ∷ second ∷ rest) e h =
    h (token_names second rest (directive_of (second ∷ rest)) refl (λ f. syntax_known d (directive_of (second ∷ rest)) e f))
known_is (text t ∷ rest) e h = cc
known_is (mark m ∷ rest) e h = cc

some_is : (tokens : List Lexeme) → header_of tokens ≡ Err Syntax → tokens ≢ []
unfolding header_of
some_is [] e none = cc
some_is (token ∷ rest) e none = cc

ok_or_err : (header : Header) (fault : FormFault) → Err fault ≡ Ok header → ⊥
ok_or_err header fault e = cc

pub no_header : (tokens : List Lexeme) (header : Header) (fault : FormFault) → header_of tokens ≡ Err fault → IsHeaderOf tokens header → ⊥
no_header tokens header fault e h = ok_or_err header fault (sym e ∙ header_found tokens header h)

-- ---- What is returned.

abbrev pub Returns : List Lexeme → Result HeaderForm FormFault → Type 0
Returns tokens r = MatchResult r (λ form. header_of tokens ≡ Ok (header_seen form)) (λ fault. header_of tokens ≡ Err fault)

pub header_says : (tokens : List Lexeme) (r : Result HeaderForm FormFault) → Returns tokens r
    → IfOk r (λ form. IsHeader tokens form.day.now (directive_seen form.directive))
header_says tokens (Ok form) e = header_is tokens (header_seen form) e
header_says tokens (Err fault) e = tt

unknown_or : (tokens : List Lexeme) → header_of tokens ≡ Err UnknownDirective → (tokens ≡ []) ⊎ IsUnknown tokens
unknown_or [] e = inl refl
unknown_or (token ∷ rest) e = inr (unknown_is (token ∷ rest) tt e)

pub header_unknown : (tokens : List Lexeme) (r : Result HeaderForm FormFault) → Returns tokens r → IsErrOf r UnknownDirective
    → (tokens ≡ []) ⊎ IsUnknown tokens
header_unknown tokens (Ok form) e is = cc
header_unknown tokens (Err UnknownDirective) e is = unknown_or tokens e
header_unknown tokens (Err Syntax) e is = cc

pub header_known : (tokens : List Lexeme) (r : Result HeaderForm FormFault) → Returns tokens r → IsErrOf r Syntax → IsUnknown tokens → ⊥
header_known tokens (Ok form) e is = cc
header_known tokens (Err UnknownDirective) e is = cc
header_known tokens (Err Syntax) e is = known_is tokens e

pub header_some : (tokens : List Lexeme) (r : Result HeaderForm FormFault) → Returns tokens r → IsErrOf r Syntax → tokens ≢ []
header_some tokens (Ok form) e is = cc
header_some tokens (Err UnknownDirective) e is = cc
header_some tokens (Err Syntax) e is = some_is tokens e

pub header_none : (tokens : List Lexeme) (r : Result HeaderForm FormFault) → Returns tokens r
    → OnErr r ((day : List ℕ) (directive : Directive) → IsHeader tokens day directive → ⊥)
header_none tokens (Ok form) e = tt
header_none tokens (Err fault) e = λ day directive h. no_header tokens (day, directive) fault e h
