-- A line says one thing, or has one fault; never both.
use Rattle.std.proofs.Common.{◌≡◌, inl, inr, ℕ, ◌≤◌, Bool, true, false, List, [], ◌∷◌, length, Some, refl, ap, ◌∙◌, sym, subst, arith}
use Rattle.std.specs.Prelude.{◌⊎◌, ◌≢◌, None, Option, Result, Ok, Err}
use Rattle.std.specs.Str.{IsUtf8, is_utf8}
use Rattle.std.proofs.lemmas.Bool.{both_ways, cases_Bool, cases_order, eqb-true}
use Rattle.std.proofs.lemmas.Option.{same_Some}
use Rattle.std.proofs.lemmas.Str.{IsUtf8-from_is_utf8, is_utf8-from_IsUtf8}
use Rattle.lot_command.specs.declared.command.Command.{Command}
use Rattle.lot_command.specs.declared.transaction.Posting.{Posting}
use Rattle.lot_syntax.specs.declared.token.Mark.TheVariants as Marks
use Rattle.lot_syntax.specs.Token.{Lexeme, Cuts, date, mark}
use Rattle.lot_syntax.specs.Cutting.{next_of, run, token_at}
use Rattle.lot_syntax.proofs.CutLemmas.{cut_follows, cut_or_not, cuts_found, one_cut}
use Rattle.lot_syntax.specs.Form.{IsHeader, IsPosting, IsUnknown, WrittenPosting}
use Rattle.lot_syntax.specs.Shape.{posting_of}
use Rattle.lot_syntax.specs.Header.{header_of}
use Rattle.lot_syntax.specs.declared.fault.FormFault.{FormFault}
use Rattle.lot_syntax.specs.declared.fault.FormFault.TheVariants.{Syntax, UnknownDirective}
use Rattle.lot_syntax.proofs.HeaderLemmas.{Header, header_found, header_is, known_is, no_header, unknown_is}
use Rattle.lot_syntax.proofs.PostingLemmas.{no_posting, posting_found, posting_is}
use Rattle.lot_read.specs.Meaning.{AreInside, FirstOutside, Item, MeansHeader, MeansPosting, header_items, posting_items}
use Rattle.lot_read.specs.declared.fault.ValueFault.{ValueFault}
use Rattle.lot_read.specs.declared.fault.LineFault.{LineFault}
use Rattle.lot_read.specs.declared.statement.Statement.{Statement}
use Rattle.lot_read.specs.declared.statement.Statement.TheVariants.{Begins, Posts}
use Rattle.lot_read.specs.Line.{longest_line, is_heading, is_indented, IsReadable, IsSkipped, IsCommand, IsPostingLine, SaysStatement, Cause, not_utf8, too_long, uncut, unknown_directive, no_form, outside, order, HasTokens, HasForm, Holds, IsFaulty, fault_by}
use Rattle.lot_read.specs.Reading.{IsLineOf, SaysAt}
use Rattle.lot_read.proofs.HeaderLemmas.{command_inside, one_command}
use Rattle.lot_read.proofs.DecisionLemmas.{inside_or_not}
use Rattle.lot_read.proofs.ItemLemmas.{not_both, one_fault}
use Rattle.lot_read.proofs.PostingLemmas.{one_posting, posting_inside}
use Rattle.lot_read.proofs.FaultLemmas.{bad_cut, bad_directive, bad_header, bad_header_value, bad_length, bad_posting, bad_posting_value, bad_utf8, form_known}
use Rattle.lot_read.proofs.StatementLemmas.{some_says_command, some_says_posting}

-- ---- Tokens have one form.

one_header : (tokens : List Lexeme) (a b : Header) → IsHeader tokens a.0 a.1 → IsHeader tokens b.0 b.1 → a ≡ b
one_header tokens a b h k =
    let found : Ok a ≡ Ok b = sym (header_found tokens a h) ∙ header_found tokens b k in
    cc

one_written : (tokens : List Lexeme) (a b : WrittenPosting) → IsPosting tokens a → IsPosting tokens b → a ≡ b
one_written tokens a b h k = same_Some a b (sym (posting_found tokens a h) ∙ posting_found tokens b k)

one_form : (may_post : Bool) (line : List ℕ) (tokens : List Lexeme) (a b : List Item) → HasForm may_post line tokens a
    → HasForm may_post line tokens b → a ≡ b
one_form may_post line tokens a b (inl (flat, day, directive, is, e)) (inl (flat', day', directive', is', e')) =
    e ∙ ap (λ (h : Header). header_items h.0 h.1) (one_header tokens (day, directive) (day', directive') is is') ∙ sym e'
one_form may_post line tokens a b (inr (in', may, written, is, e)) (inr (in'', may', written', is', e')) =
    e ∙ ap posting_items (one_written tokens written written' is is') ∙ sym e'
one_form may_post line tokens a b (inl (flat, day, directive, is, e)) (inr (indented, may, written, is', e')) =
    absurd (both_ways (is_indented line) flat indented)
one_form may_post line tokens a b (inr (indented, may, written, is, e)) (inl (flat, day, directive, is', e')) =
    absurd (both_ways (is_indented line) flat indented)

-- ---- A line that is skipped says nothing else.

star_next : (rest : List ℕ) → next_of (42 ∷ rest) ≡ Some (Some (mark Marks.Star, rest))
unfolding next_of run token_at
star_next rest = refl

star_no_date : (rest : List ℕ) (day : List ℕ) (tokens : List Lexeme) → Cuts (date day ∷ tokens) (42 ∷ rest) → ⊥
star_no_date rest day tokens cuts =
    let first = (cut_follows (42 ∷ rest) (mark Marks.Star, rest) (date day ∷ tokens) (star_next rest) (cuts_found (date day ∷ tokens) (42 ∷ rest) cuts)).whole
    in
    absurd cc

heading_no_date : (line : List ℕ) (day : List ℕ) (tokens : List Lexeme) → is_heading line ≡ true → Cuts (date day ∷ tokens) line → ⊥
heading_no_date [] day tokens heading cuts = cc
heading_no_date (b ∷ rest) day tokens heading cuts =
    star_no_date rest day tokens (subst (λ (x : ℕ). Cuts (date day ∷ tokens) (x ∷ rest)) (eqb-true b 42 heading) cuts)

heading_no_indent : (line : List ℕ) → is_heading line ≡ true → is_indented line ≡ true → ⊥
heading_no_indent [] heading indented = cc
heading_no_indent (b ∷ rest) heading indented = star_no_blank (subst (λ (x : ℕ). is_indented (x ∷ rest) ≡ true) (eqb-true b 42 heading) indented)
  where
    star_no_blank : false ≡ true → ⊥
    star_no_blank e = cc

skipped_no_command : (line : List ℕ) (command : Command) → IsSkipped line → IsCommand line command → ⊥
skipped_no_command line command (inl heading) k =
    heading_no_date line k.day k.form.0 heading (subst (λ (ts : List Lexeme). Cuts ts line) k.form.2 k.cuts)
skipped_no_command line command (inr cuts) k =
    let none = one_cut line [] k.tokens cuts k.cuts in
    let some = k.form.2 in
    absurd cc

skipped_no_posting : (line : List ℕ) (posting : Posting) → IsSkipped line → IsPostingLine line posting → ⊥
skipped_no_posting line posting (inl heading) k = heading_no_indent line heading k.indented
skipped_no_posting line posting (inr cuts) k =
    let none = one_cut line [] k.tokens cuts k.cuts in
    let some = k.form.1 in
    absurd cc

-- ---- A line says one thing.

commands_one : (line : List ℕ) (a b : Command) → IsCommand line a → IsCommand line b → a ≡ b
commands_one line a b h k =
    let form = subst (λ (ts : List Lexeme). IsHeader ts h.day h.directive) (one_cut line h.tokens k.tokens h.cuts k.cuts) h.form in
    let same = one_header k.tokens (h.day, h.directive) (k.day, k.directive) form k.form in
    one_command k.day k.directive a b (subst (λ (x : Header). MeansHeader x.0 x.1 a) same h.means) k.means

postings_one : (line : List ℕ) (a b : Posting) → IsPostingLine line a → IsPostingLine line b → a ≡ b
postings_one line a b h k =
    let form = subst (λ (ts : List Lexeme). IsPosting ts h.written) (one_cut line h.tokens k.tokens h.cuts k.cuts) h.form in
    let same = one_written k.tokens h.written k.written form k.form in
    one_posting k.written a b (subst (λ (x : WrittenPosting). MeansPosting x a) same h.means) k.means

pub says_one : (line : List ℕ) (a b : Option Statement) → SaysStatement line a → SaysStatement line b → a ≡ b
says_one line None None h k = refl
says_one line None (Some (Begins command)) h k = absurd (skipped_no_command line command h.1 k.1)
says_one line None (Some (Posts posting)) h k = absurd (skipped_no_posting line posting h.1 k.1)
says_one line (Some (Begins command)) None h k = absurd (skipped_no_command line command k.1 h.1)
says_one line (Some (Posts posting)) None h k = absurd (skipped_no_posting line posting k.1 h.1)
says_one line (Some (Begins a)) (Some (Begins b)) h k = ap (λ c. Some (Begins c)) (commands_one line a b h.1 k.1)
says_one line (Some (Posts a)) (Some (Posts b)) h k = ap (λ p. Some (Posts p)) (postings_one line a b h.1 k.1)
says_one line (Some (Begins a)) (Some (Posts b)) h k = absurd (both_ways (is_indented line) h.1.unindented k.1.indented)
says_one line (Some (Posts a)) (Some (Begins b)) h k = absurd (both_ways (is_indented line) k.1.unindented h.1.indented)

-- ---- A line has one fault.

values_one : (may_post : Bool) (line : List ℕ) (f g : ValueFault) → Holds may_post line (outside f) → Holds may_post line (outside g) → f ≡ g
values_one may_post line f g (tokens, items, has, form, first) (tokens', items', has', form', first') =
    let same = one_cut line tokens tokens' has.cuts has'.cuts in
    let items_same = one_form may_post line tokens' items items' (subst (λ (ts : List Lexeme). HasForm may_post line ts items) same form) form' in
    one_fault items' f g (subst (λ (xs : List Item). FirstOutside xs f) items_same first) first'

causes_one : (may_post : Bool) (line : List ℕ) (c d : Cause) → order c ≡ order d → Holds may_post line c → Holds may_post line d
    → fault_by c ≡ fault_by d
causes_one may_post line not_utf8 not_utf8 e h k = refl
causes_one may_post line not_utf8 _ e h k = absurd (omega arith)
causes_one may_post line too_long too_long e h k = refl
causes_one may_post line too_long _ e h k = absurd (omega arith)
causes_one may_post line uncut uncut e h k = refl
causes_one may_post line uncut _ e h k = absurd (omega arith)
causes_one may_post line unknown_directive unknown_directive e h k = refl
causes_one may_post line unknown_directive _ e h k = absurd (omega arith)
causes_one may_post line no_form no_form e h k = refl
causes_one may_post line no_form _ e h k = absurd (omega arith)
causes_one may_post line (outside f) (outside g) e h k = ap (λ v. fault_by (outside v)) (values_one may_post line f g h k)
causes_one may_post line (outside f) _ e h k = absurd (omega arith)

least_both : (m n : ℕ) → m ≤ n → n ≤ m → m ≡ n
least_both m n h k = omega arith

pub faults_one : (may_post : Bool) (line : List ℕ) (f g : LineFault) → IsFaulty may_post line f → IsFaulty may_post line g → f ≡ g
faults_one may_post line f g (c, h, e) (d, k, e') =
    e ∙ causes_one may_post line c d (least_both (order c) (order d) (h.first d k.holds) (k.first c h.holds)) h.holds k.holds ∙ sym e'

-- ---- Never both.

skipped_no_tokens : (line : List ℕ) (tokens : List Lexeme) → IsSkipped line → HasTokens line tokens → ⊥
skipped_no_tokens line tokens (inl heading) has = both_ways (is_heading line) has.plain heading
skipped_no_tokens line tokens (inr cuts) has = has.some (one_cut line tokens [] has.cuts cuts)

skipped_no_cause : (may_post : Bool) (line : List ℕ) (cause : Cause) → IsReadable line → IsSkipped line → Holds may_post line cause → ⊥
skipped_no_cause may_post line not_utf8 readable skipped h = h readable.utf8
skipped_no_cause may_post line too_long readable skipped h = let short = readable.short in omega arith
skipped_no_cause may_post line uncut readable (inl heading) (plain, none) = both_ways (is_heading line) plain heading
skipped_no_cause may_post line uncut readable (inr cuts) (plain, none) = none [] cuts
skipped_no_cause may_post line unknown_directive readable skipped (tokens, has, flat, unknown) = skipped_no_tokens line tokens skipped has
skipped_no_cause may_post line no_form readable skipped (tokens, has, none) = skipped_no_tokens line tokens skipped has
skipped_no_cause may_post line (outside f) readable skipped (tokens, items, has, form, first) = skipped_no_tokens line tokens skipped has

-- a line with a form, all parts of which are within their rules
formed_no_cause : (may_post : Bool) (line : List ℕ) (tokens : List Lexeme) (items : List Item) (cause : Cause) → IsReadable line → Cuts tokens line
    → HasForm may_post line tokens items → AreInside items → Holds may_post line cause → ⊥
formed_no_cause may_post line tokens items not_utf8 readable cuts form inside h = h readable.utf8
formed_no_cause may_post line tokens items too_long readable cuts form inside h = let short = readable.short in omega arith
formed_no_cause may_post line tokens items uncut readable cuts form inside (plain, none) = none tokens cuts
formed_no_cause may_post line tokens items unknown_directive readable cuts form inside (tokens', has, flat, unknown) =
    form_known may_post line tokens items form flat (subst IsUnknown (one_cut line tokens' tokens has.cuts cuts) unknown)
formed_no_cause may_post line tokens items no_form readable cuts form inside (tokens', has, none) =
    none items (subst (λ (ts : List Lexeme). HasForm may_post line ts items) (one_cut line tokens tokens' cuts has.cuts) form)
formed_no_cause may_post line tokens items (outside f) readable cuts form inside (tokens', items', has, form', first) =
    let same = one_cut line tokens' tokens has.cuts cuts in
    let items_same = one_form may_post line tokens items' items (subst (λ (ts : List Lexeme). HasForm may_post line ts items') same form') form in
    not_both items f inside (subst (λ (xs : List Item). FirstOutside xs f) items_same first)

said_no_cause : (may_post : Bool) (line : List ℕ) (said : Option Statement) (cause : Cause) → SaysAt may_post line said → Holds may_post line cause → ⊥
said_no_cause may_post line None cause (says, fits) h = skipped_no_cause may_post line cause says.0 says.1 h
said_no_cause may_post line (Some (Begins command)) cause (says, fits) h =
    let k = says.1 in
    formed_no_cause may_post line k.tokens (header_items k.day k.directive) cause says.0 k.cuts
    (inl (k.unindented, k.day, k.directive, k.form, refl)) (command_inside k.day k.directive command k.means) h
said_no_cause may_post line (Some (Posts posting)) cause (says, fits) h =
    let k = says.1 in
    formed_no_cause may_post line k.tokens (posting_items k.written) cause says.0 k.cuts
    (inr (k.indented, fits, k.written, k.form, refl)) (posting_inside k.written posting k.form.0 k.means) h

pub says_no_fault : (may_post : Bool) (line : List ℕ) (said : Option Statement) (fault : LineFault) → SaysAt may_post line said
    → IsFaulty may_post line fault → ⊥
says_no_fault may_post line said fault says (cause, is, e) = said_no_cause may_post line said cause says is.holds

-- ---- Always one of the two.

abbrev pub IsKnown : Bool → List ℕ → Type 0
IsKnown may_post line =
    ((said : Option Statement) × SaysAt may_post line said) ⊎ ((fault : LineFault) × IsFaulty may_post line fault)

unknown_some : (tokens : List Lexeme) → tokens ≢ [] → header_of tokens ≡ Err UnknownDirective → IsUnknown tokens
unknown_some [] some e = absurd (some refl)
unknown_some (token ∷ tokens) some e = unknown_is (token ∷ tokens) tt e

header_by : (may_post : Bool) (line : List ℕ) (tokens : List Lexeme) (found : Result Header FormFault) → header_of tokens ≡ found
    → IsLineOf false tokens line → IsKnown may_post line
header_by may_post line tokens (Ok header) e of =
    let is = header_is tokens header e in
    elim (inside_or_not (header_items header.0 header.1)) [
      | inl inside ↦ inl (some_says_command may_post line tokens header.0 header.1 of is inside)
      | inr first ↦ inr (_, bad_header_value may_post line tokens header.0 header.1 first.0 of is first.1)
    ]
header_by may_post line tokens (Err UnknownDirective) e of = inr (_, bad_directive may_post line tokens of (unknown_some tokens of.has.some e))
header_by may_post line tokens (Err Syntax) e of =
    inr (_, bad_header may_post line tokens of (known_is tokens e) (λ day directive is. no_header tokens (day, directive) Syntax e is))

posting_by : (line : List ℕ) (tokens : List Lexeme) (found : Option WrittenPosting) → posting_of tokens ≡ found → IsLineOf true tokens line
    → IsKnown true line
posting_by line tokens (Some written) e of =
    let is = posting_is tokens written e in
    elim (inside_or_not (posting_items written)) [
      | inl inside ↦ inl (some_says_posting true line tokens written refl of is inside)
      | inr first ↦ inr (_, bad_posting_value true line tokens written first.0 refl of is first.1)
    ]
posting_by line tokens None e of = inr (_, bad_posting true line tokens of (λ may written is. no_posting tokens written (sym e) is))

indented_by : (may_post : Bool) (line : List ℕ) (tokens : List Lexeme) → IsLineOf true tokens line → IsKnown may_post line
indented_by true line tokens of = posting_by line tokens (posting_of tokens) refl of
indented_by false line tokens of = inr (_, bad_posting false line tokens of (λ may written is. absurd cc))

tokens_by : (may_post : Bool) (line : List ℕ) (tokens : List Lexeme) (indented : Bool) → is_indented line ≡ indented → IsReadable line
    → HasTokens line tokens → IsKnown may_post line
tokens_by may_post line tokens true e readable has = indented_by may_post line tokens (record { readable = readable; has = has; indent = e })
tokens_by may_post line tokens false e readable has =
    header_by may_post line tokens (header_of tokens) refl (record { readable = readable; has = has; indent = e })

cut_by : (may_post : Bool) (line : List ℕ) (tokens : List Lexeme) → IsReadable line → is_heading line ≡ false → Cuts tokens line → IsKnown may_post line
cut_by may_post line [] readable plain cuts = inl (None, ((readable, inr cuts), tt))
cut_by may_post line (token ∷ tokens) readable plain cuts =
    tokens_by may_post line (token ∷ tokens) (is_indented line) refl readable (record { plain = plain; cuts = cuts; some = λ none. cc })

readable_by : (may_post : Bool) (line : List ℕ) (heading : Bool) → is_heading line ≡ heading → IsReadable line → IsKnown may_post line
readable_by may_post line true e readable = inl (None, ((readable, inl e), tt))
readable_by may_post line false e readable = elim (cut_or_not line) [
  | inl found ↦ cut_by may_post line found.0 readable e found.1
  | inr none ↦ inr (_, bad_cut may_post line readable e none)
]

length_by : (may_post : Bool) (line : List ℕ) → IsUtf8 line → IsKnown may_post line
length_by may_post line utf8 = elim (cases_order (length line) longest_line) [
  | inl same ↦ readable_by may_post line (is_heading line) refl (record { utf8 = utf8; short = omega arith })
  | inr others ↦ elim others [
    | inl less ↦ readable_by may_post line (is_heading line) refl (record { utf8 = utf8; short = omega arith })
    | inr long ↦ inr (_, bad_length may_post line utf8 long)
  ]
]

pub line_known : (may_post : Bool) (line : List ℕ) → IsKnown may_post line
line_known may_post line = elim (cases_Bool (is_utf8 line)) [
  | inl good ↦ length_by may_post line (IsUtf8-from_is_utf8 line good)
  | inr bad ↦ inr (_, bad_utf8 may_post line (λ utf8. both_ways (is_utf8 line) bad (is_utf8-from_IsUtf8 line utf8)))
]
