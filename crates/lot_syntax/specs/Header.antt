-- How the parts of a line that isn't indented are taken from its tokens, from the first token on. That these are the forms of
-- a line, both ways, is proved in proofs/HeaderLemmas.antt.
use Rattle.std.specs.Prelude.{ℕ, ◌==◌, Bool, if◌then◌else◌, nat_le, List, [], ◌∷◌, length, map, codes, Option, Some, None, option_map, Result, Ok, Err}
use Rattle.std.specs.Cmp.Lexicographic.{pointwise}
use Rattle.lot_command.specs.Currencies.{most_currencies}
use Rattle.lot_command.specs.declared.transaction.Flag.{Flag}
use Rattle.lot_command.specs.declared.transaction.Flag.TheVariants.{Complete, Incomplete}
use Rattle.lot_syntax.specs.declared.form.DirectiveForm.{DirectiveForm}
use Rattle.lot_syntax.specs.declared.form.DirectiveForm.TheVariants as Forms
use Rattle.lot_syntax.specs.declared.form.HeaderForm.{HeaderForm}
use Rattle.lot_syntax.specs.declared.form.NotesForm.{NotesForm}
use Rattle.lot_syntax.specs.declared.fault.FormFault.{FormFault}
use Rattle.lot_syntax.specs.declared.fault.FormFault.TheVariants.{UnknownDirective, Syntax}
use Rattle.lot_syntax.specs.declared.token.Mark.TheVariants as Marks
use Rattle.lot_syntax.specs.Token.{Lexeme, word, number, date, text, mark}
use Rattle.lot_syntax.specs.Form.{Directive, opening, closing, declaring, quoting, transaction}
use Rattle.lot_syntax.specs.Shape.{◌>>=◌, is_empty, as_word, as_number}
use denote.Ref.{Bor}

-- ---- What the forms of the program stand for.

abbrev pub seen_text : Bor (List ℕ) → List ℕ
seen_text bytes = bytes.now

abbrev pub notes_seen : NotesForm → Option (List ℕ) × List ℕ
notes_seen notes = (option_map seen_text notes.payee, notes.narration.now)

abbrev pub directive_seen : DirectiveForm → Directive
directive_seen (Forms.Opening account currencies method) = opening account.now (map seen_text currencies.now.items) (option_map seen_text method)
directive_seen (Forms.Closing account) = closing account.now
directive_seen (Forms.Declaring commodity) = declaring commodity.now
directive_seen (Forms.Quoting base rate quote) = quoting base.now rate.now quote.now
directive_seen (Forms.Transaction flag notes) = transaction flag (option_map notes_seen notes)

abbrev pub header_seen : HeaderForm → List ℕ × Directive
header_seen header = (header.day.now, directive_seen header.directive)

-- ---- One token.

abbrev pub as_text : List Lexeme → Option (List ℕ × List Lexeme)
as_text [] = None
as_text (word w ∷ rest) = None
as_text (number n ∷ rest) = None
as_text (date d ∷ rest) = None
as_text (text t ∷ rest) = Some (t, rest)
as_text (mark m ∷ rest) = None

-- a word, and nothing behind it
abbrev pub last_word : List Lexeme → Option (List ℕ)
last_word tokens = as_word tokens >>= λ w. (if is_empty w.1 then Some w.0 else None)

-- ---- Openings.

-- the words that stand behind commas, after the first
unfoldable pub more_words : List Lexeme → Option (List (List ℕ) × List Lexeme)
more_words (mark Marks.Comma ∷ word w ∷ rest) = more_words rest >>= λ more. Some (w ∷ more.0, more.1)
more_words (mark Marks.Comma ∷ rest) = None
more_words tokens = Some ([], tokens)

abbrev pub within_limit : List (List ℕ) × List Lexeme → Option (List (List ℕ) × List Lexeme)
within_limit found = if nat_le (length found.0) most_currencies then Some found else None

abbrev pub currencies_by : List Lexeme → Option (List ℕ × List Lexeme) → Option (List (List ℕ) × List Lexeme)
currencies_by tokens None = Some ([], tokens)
currencies_by tokens (Some first) = more_words first.1 >>= λ more. within_limit (first.0 ∷ more.0, more.1)

unfoldable pub currencies_at : List Lexeme → Option (List (List ℕ) × List Lexeme)
currencies_at tokens = currencies_by tokens (as_word tokens)

-- a text or nothing, at the end of a line
abbrev pub last_text : List Lexeme → Option (Option (List ℕ))
last_text [] = Some None
last_text (token ∷ rest) = as_text (token ∷ rest) >>= λ t. (if is_empty t.1 then Some (Some t.0) else None)

unfoldable pub opening_of : List Lexeme → Option Directive
opening_of tokens = do
  account ← as_word tokens
  currencies ← currencies_at account.1
  method ← last_text currencies.1
  Some (opening account.0 currencies.0 method)

-- ---- The other directives.

unfoldable pub closing_of : List Lexeme → Option Directive
closing_of tokens = last_word tokens >>= λ account. Some (closing account)

unfoldable pub declaring_of : List Lexeme → Option Directive
declaring_of tokens = last_word tokens >>= λ commodity. Some (declaring commodity)

unfoldable pub quoting_of : List Lexeme → Option Directive
quoting_of tokens = do
  base ← as_word tokens
  rate ← as_number base.1
  quote ← last_word rate.1
  Some (quoting base.0 rate.0 quote)

-- behind the first text
abbrev pub notes_by : List ℕ → List Lexeme → Option (Option (Option (List ℕ) × List ℕ))
notes_by first [] = Some (Some (None, first))
notes_by first (token ∷ rest) =
    as_text (token ∷ rest) >>= λ t. (if is_empty t.1 then Some (Some (Some first, t.0)) else None)

abbrev pub notes_of : List Lexeme → Option (Option (Option (List ℕ) × List ℕ))
notes_of [] = Some None
notes_of (token ∷ rest) = as_text (token ∷ rest) >>= λ t. notes_by t.0 t.1

unfoldable pub transaction_of : Flag → List Lexeme → Option Directive
transaction_of flag tokens = notes_of tokens >>= λ notes. Some (transaction flag notes)

-- ---- Lines that aren't indented.

abbrev pub fitting : {X : Type 0} → Option X → Result X FormFault
fitting None = Err Syntax
fitting (Some x) = Ok x

abbrev pub same : List ℕ → List ℕ → Bool
same a b = pointwise ◌==◌ a b

-- the directive of that word
unfoldable pub named : List ℕ → List Lexeme → Result Directive FormFault
named w rest =
    if same w (codes "open") then fitting (opening_of rest)
    else (if same w (codes "close") then fitting (closing_of rest)
    else (if same w (codes "commodity") then fitting (declaring_of rest)
    else (if same w (codes "price") then fitting (quoting_of rest)
    else (if same w (codes "txn") then fitting (transaction_of Complete rest)
    else Err UnknownDirective))))

-- the directive behind a day
unfoldable pub directive_of : List Lexeme → Result Directive FormFault
directive_of [] = Err Syntax
directive_of (word w ∷ rest) = named w rest
directive_of (number n ∷ rest) = Err UnknownDirective
directive_of (date d ∷ rest) = Err UnknownDirective
directive_of (text t ∷ rest) = Err UnknownDirective
directive_of (mark Marks.Star ∷ rest) = fitting (transaction_of Complete rest)
directive_of (mark Marks.Exclamation ∷ rest) = fitting (transaction_of Incomplete rest)
directive_of (mark m ∷ rest) = Err UnknownDirective

abbrev pub with_day : List ℕ → Result Directive FormFault → Result (List ℕ × Directive) FormFault
with_day d (Ok directive) = Ok (d, directive)
with_day d (Err fault) = Err fault

unfoldable pub header_of : List Lexeme → Result (List ℕ × Directive) FormFault
header_of (date d ∷ rest) = with_day d (directive_of rest)
header_of tokens = Err UnknownDirective
