-- The first cause that holds of a line.
use Rattle.std.proofs.Common.{◌≡◌, inl, inr, ℕ, ◌<◌, ◌≤◌, Bool, true, false, List, ◌∷◌, length, refl, subst, arith, lit≤}
use Rattle.std.specs.Prelude.{IsTrue, IsFalse}
use Rattle.std.specs.Str.{IsUtf8}
use Rattle.std.proofs.lemmas.Bool.{both_ways}
use Rattle.lot_syntax.specs.Token.{Lexeme, Cuts, date}
use Rattle.lot_syntax.proofs.CutLemmas.{one_cut}
use Rattle.lot_syntax.specs.Form.{Directive, opening, closing, declaring, quoting, transaction, IsDirective, IsFlag, IsHeader, IsPosting, IsUnknown, NamesDirective, WrittenPosting}
use Rattle.lot_command.specs.declared.transaction.Flag.{Flag}
use Rattle.lot_command.specs.declared.transaction.Flag.TheVariants.{Complete, Incomplete}
use Rattle.lot_read.specs.Meaning.{FirstOutside, Item, header_items, posting_items}
use Rattle.lot_read.specs.declared.fault.ValueFault.{ValueFault}
use Rattle.lot_read.specs.declared.fault.LineFault.TheVariants as Faults
use Rattle.lot_read.specs.Line.{longest_line, is_heading, is_indented, IsReadable, Cause, not_utf8, too_long, uncut, unknown_directive, no_form, outside, order, HasTokens, HasForm, Holds, IsFaulty, fault_by}
use Rattle.lot_read.specs.Reading.{IsLineOf}

-- ---- A line that isn't indented and has a form is a directive.

flag_names : (token : Lexeme) (flag : Flag) → IsFlag token flag → NamesDirective token
flag_names token Complete (inl e) = inr (inr (inr (inr (inl e))))
flag_names token Complete (inr e) = inr (inr (inr (inr (inr (inr e)))))
flag_names token Incomplete e = inr (inr (inr (inr (inr (inl e)))))

known_by : (when : List ℕ) (rest : List Lexeme) (directive : Directive) → IsDirective rest directive → IsUnknown (date when ∷ rest) → ⊥
known_by when rest (opening account currencies method) (most, e) unknown = (subst (λ (ts : List Lexeme). IsUnknown (date when ∷ ts)) e unknown) (inl refl)
known_by when rest (closing account) e unknown = (subst (λ (ts : List Lexeme). IsUnknown (date when ∷ ts)) e unknown) (inr (inl refl))
known_by when rest (declaring commodity) e unknown = (subst (λ (ts : List Lexeme). IsUnknown (date when ∷ ts)) e unknown) (inr (inr (inl refl)))
known_by when rest (quoting base rate quote) e unknown =
    (subst (λ (ts : List Lexeme). IsUnknown (date when ∷ ts)) e unknown) (inr (inr (inr (inl refl))))
known_by when rest (transaction flag notes) (token, is, e) unknown =
    (subst (λ (ts : List Lexeme). IsUnknown (date when ∷ ts)) e unknown) (flag_names token flag is)

known : (tokens : List Lexeme) (day : List ℕ) (directive : Directive) → IsHeader tokens day directive → IsUnknown tokens → ⊥
known tokens day directive (rest, is, e) unknown = known_by day rest directive is (subst IsUnknown e unknown)

-- ---- Causes that are ruled out.

past_length : (may_post : Bool) (line : List ℕ) → IsReadable line → (other : Cause) → Holds may_post line other → 3 ≤ order other
past_length may_post line readable not_utf8 h = absurd (h readable.utf8)
past_length may_post line readable too_long h = let short = readable.short in absurd (omega arith)
past_length may_post line readable _ h = lit≤ tt

past_cut : (may_post : Bool) (line : List ℕ) (tokens : List Lexeme) → IsReadable line → HasTokens line tokens
    → (other : Cause) → Holds may_post line other → 4 ≤ order other
past_cut may_post line tokens readable has not_utf8 h = absurd (h readable.utf8)
past_cut may_post line tokens readable has too_long h = let short = readable.short in absurd (omega arith)
past_cut may_post line tokens readable has uncut (plain, none) = absurd (none tokens has.cuts)
past_cut may_post line tokens readable has _ h = lit≤ tt

past_directive : (may_post : Bool) (line : List ℕ) (tokens : List Lexeme) → IsReadable line → HasTokens line tokens
    → (IsFalse (is_indented line) → IsUnknown tokens → ⊥) → (other : Cause) → Holds may_post line other → 5 ≤ order other
past_directive may_post line tokens readable has known not_utf8 h = absurd (h readable.utf8)
past_directive may_post line tokens readable has known too_long h = let short = readable.short in absurd (omega arith)
past_directive may_post line tokens readable has known uncut (plain, none) = absurd (none tokens has.cuts)
past_directive may_post line tokens readable has known unknown_directive (others, has', flat, unknown) =
    absurd (known flat (subst IsUnknown (one_cut line others tokens has'.cuts has.cuts) unknown))
past_directive may_post line tokens readable has known _ h = lit≤ tt

pub form_known : (may_post : Bool) (line : List ℕ) (tokens : List Lexeme) (items : List Item) → HasForm may_post line tokens items
    → IsFalse (is_indented line) → IsUnknown tokens → ⊥
form_known may_post line tokens items (inl (flat, day, directive, is, e)) flat' unknown = known tokens day directive is unknown
form_known may_post line tokens items (inr (indented, may, written, is, e)) flat unknown = both_ways (is_indented line) flat indented

past_form : (may_post : Bool) (line : List ℕ) (tokens : List Lexeme) (items : List Item) → IsReadable line → HasTokens line tokens
    → HasForm may_post line tokens items → (other : Cause) → Holds may_post line other → 6 ≤ order other
past_form may_post line tokens items readable has form (outside fault) h = lit≤ tt
past_form may_post line tokens items readable has form no_form (others, has', none) =
    absurd (none items (subst (λ (ts : List Lexeme). HasForm may_post line ts items) (one_cut line tokens others has.cuts has'.cuts) form))
past_form may_post line tokens items readable has form unknown_directive h =
    absurd (lit_no (past_directive may_post line tokens readable has (form_known may_post line tokens items form) unknown_directive h))
  where
    lit_no : 5 ≤ 4 → ⊥
    lit_no h = omega arith
past_form may_post line tokens items readable has form uncut h =
    absurd (lit_no (past_cut may_post line tokens readable has uncut h))
  where
    lit_no : 4 ≤ 3 → ⊥
    lit_no h = omega arith
past_form may_post line tokens items readable has form not_utf8 h = absurd (h readable.utf8)
past_form may_post line tokens items readable has form too_long h = let short = readable.short in absurd (omega arith)

-- ---- The fault of a line, by what is found of it.

pub bad_utf8 : (may_post : Bool) (line : List ℕ) → (IsUtf8 line → ⊥) → IsFaulty may_post line Faults.NotUtf8
bad_utf8 may_post line bad = (not_utf8, record { holds = bad; first = λ other h. least other }, refl)
  where
    least : (other : Cause) → 1 ≤ order other
    least not_utf8 = lit≤ tt
    least _ = lit≤ tt

pub bad_length : (may_post : Bool) (line : List ℕ) → IsUtf8 line → longest_line < length line → IsFaulty may_post line Faults.TooLong
bad_length may_post line utf8 long = (too_long, record { holds = long; first = λ other h. least other h }, refl)
  where
    least : (other : Cause) → Holds may_post line other → 2 ≤ order other
    least not_utf8 h = absurd (h utf8)
    least _ h = lit≤ tt

pub bad_cut : (may_post : Bool) (line : List ℕ) → IsReadable line → is_heading line ≡ false → ((tokens : List Lexeme) → Cuts tokens line → ⊥)
    → IsFaulty may_post line Faults.Syntax
bad_cut may_post line readable plain none =
    (uncut, record { holds = (plain, none); first = past_length may_post line readable }, refl)

pub bad_directive : (may_post : Bool) (line : List ℕ) (tokens : List Lexeme) → IsLineOf false tokens line → IsUnknown tokens
    → IsFaulty may_post line Faults.UnknownDirective
bad_directive may_post line tokens of unknown = (
  unknown_directive,
  record { holds = (tokens, of.has, of.indent, unknown); first = past_cut may_post line tokens of.readable of.has },
  refl,
)

-- none of the forms of a line that isn't indented
pub bad_header : (may_post : Bool) (line : List ℕ) (tokens : List Lexeme) → IsLineOf false tokens line → (IsUnknown tokens → ⊥)
    → ((day : List ℕ) (directive : Directive) → IsHeader tokens day directive → ⊥) → IsFaulty may_post line Faults.Syntax
bad_header may_post line tokens of known none = (
  no_form,
  record {
    holds = (tokens, of.has, by);
    first = past_directive may_post line tokens of.readable of.has (λ flat unknown. known unknown);
  },
  refl,
)
  where
    by : (items : List Item) → HasForm may_post line tokens items → ⊥
    by items (inl (flat, day, directive, is, e)) = none day directive is
    by items (inr (indented, may, written, is, e)) = both_ways (is_indented line) of.indent indented

-- a posting where none may stand, or none
pub bad_posting : (may_post : Bool) (line : List ℕ) (tokens : List Lexeme) → IsLineOf true tokens line
    → (IsTrue may_post → (written : WrittenPosting) → IsPosting tokens written → ⊥) → IsFaulty may_post line Faults.Syntax
bad_posting may_post line tokens of none = (
  no_form,
  record {
    holds = (tokens, of.has, by);
    first = past_directive may_post line tokens of.readable of.has (λ flat unknown. both_ways (is_indented line) flat of.indent);
  },
  refl,
)
  where
    by : (items : List Item) → HasForm may_post line tokens items → ⊥
    by items (inl (flat, day, directive, is, e)) = both_ways (is_indented line) flat of.indent
    by items (inr (indented, may, written, is, e)) = none may written is

-- a part outside its rule
bad_value : (may_post : Bool) (line : List ℕ) (tokens : List Lexeme) (items : List Item) (fault : ValueFault) → IsReadable line
    → HasTokens line tokens → HasForm may_post line tokens items → FirstOutside items fault
    → IsFaulty may_post line (fault_by (outside fault))
bad_value may_post line tokens items fault readable has form first = (
  outside fault,
  record { holds = (tokens, items, has, form, first); first = past_form may_post line tokens items readable has form },
  refl,
)

pub bad_header_value : (may_post : Bool) (line : List ℕ) (tokens : List Lexeme) (day : List ℕ) (directive : Directive) (fault : ValueFault)
    → IsLineOf false tokens line → IsHeader tokens day directive → FirstOutside (header_items day directive) fault
    → IsFaulty may_post line (fault_by (outside fault))
bad_header_value may_post line tokens day directive fault of is first =
    bad_value may_post line tokens (header_items day directive) fault of.readable of.has (inl (of.indent, day, directive, is, refl)) first

pub bad_posting_value : (may_post : Bool) (line : List ℕ) (tokens : List Lexeme) (written : WrittenPosting) (fault : ValueFault)
    → IsTrue may_post → IsLineOf true tokens line → IsPosting tokens written → FirstOutside (posting_items written) fault
    → IsFaulty may_post line (fault_by (outside fault))
bad_posting_value may_post line tokens written fault may of is first =
    bad_value may_post line tokens (posting_items written) fault of.readable of.has (inr (of.indent, may, written, is, refl)) first
