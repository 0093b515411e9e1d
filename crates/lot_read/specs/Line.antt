-- One line of ledger text, without its line end: what it says (docs/FORMATS.md, Forms), and what is wrong with it
-- (docs/FORMATS.md, Order of faults).
use Rattle.std.specs.Prelude.{◌≡◌, ◌≢◌, ◌⊎◌, ◌≤◌, ◌<◌, ℕ, Bool, IsTrue, IsFalse, List, [], length, Option, Some, None}
use Rattle.std.specs.Str.{IsUtf8}
use Rattle.lot_command.specs.declared.command.Command.{Command}
use Rattle.lot_command.specs.declared.transaction.Posting.{Posting}
use Rattle.lot_syntax.specs.Token.{Lexeme, Cuts, begins, begins_with, is_blank}
use Rattle.lot_syntax.specs.Form.{Directive, IsHeader, IsPosting, IsUnknown, WrittenPosting}
use Rattle.lot_read.specs.Meaning.{FirstOutside, Item, MeansHeader, MeansPosting, header_items, posting_items}
use Rattle.lot_read.specs.declared.fault.ValueFault.{ValueFault}
use Rattle.lot_read.specs.declared.fault.ValueFault.TheVariants as Values
use Rattle.lot_read.specs.declared.fault.LineFault.{LineFault}
use Rattle.lot_read.specs.declared.fault.LineFault.TheVariants as Faults
use Rattle.lot_read.specs.declared.statement.Statement.{Statement}
use Rattle.lot_read.specs.declared.statement.Statement.TheVariants.{Begins, Posts}

-- the most bytes of a line
abbrev pub longest_line : ℕ
longest_line = 4096

-- its first byte is `*`
abbrev pub is_heading : List ℕ → Bool
is_heading line = begins_with 42 line

-- its first byte is a space or a tab
abbrev pub is_indented : List ℕ → Bool
is_indented line = begins is_blank line

-- ---- What a line says.

-- UTF-8, and not too long
pub record IsReadable (line : List ℕ) : Type 0 where
  pub utf8 : IsUtf8 line
  pub short : length line ≤ longest_line

-- a heading, or a line without tokens
abbrev pub IsSkipped : List ℕ → Type 0
IsSkipped line = IsTrue (is_heading line) ⊎ Cuts [] line

-- the command that begins on the line
pub record IsCommand (line : List ℕ) (command : Command) : Type 0 where
  pub unindented : IsFalse (is_indented line)
  pub tokens : List Lexeme
  pub cuts : Cuts tokens line
  pub day : List ℕ
  pub directive : Directive
  pub form : IsHeader tokens day directive
  pub means : MeansHeader day directive command

-- the posting on the line
pub record IsPostingLine (line : List ℕ) (posting : Posting) : Type 0 where
  pub indented : IsTrue (is_indented line)
  pub tokens : List Lexeme
  pub cuts : Cuts tokens line
  pub written : WrittenPosting
  pub form : IsPosting tokens written
  pub means : MeansPosting written posting

-- a statement, or nothing where the line is skipped
abbrev pub SaysStatement : List ℕ → Option Statement → Type 0
SaysStatement line None = IsReadable line × IsSkipped line
SaysStatement line (Some (Begins command)) = IsReadable line × IsCommand line command
SaysStatement line (Some (Posts posting)) = IsReadable line × IsPostingLine line posting

-- ---- What is wrong with a line.

-- in their order
pub data Cause : Type 0 where
  not_utf8 : Cause
  too_long : Cause
  uncut : Cause
  unknown_directive : Cause
  no_form : Cause
  outside : ValueFault → Cause

abbrev pub order : Cause → ℕ
order not_utf8 = 1
order too_long = 2
order uncut = 3
order unknown_directive = 4
order no_form = 5
order (outside fault) = 6

-- the tokens of a line that is no heading, of which there are some
pub record HasTokens (line : List ℕ) (tokens : List Lexeme) : Type 0 where
  pub plain : IsFalse (is_heading line)
  pub cuts : Cuts tokens line
  pub some : tokens ≢ []

-- the parts of a line that has a form, from left to right; a posting may stand there or not
abbrev pub HasForm : Bool → List ℕ → List Lexeme → List Item → Type 0
HasForm may_post line tokens items =
    (IsFalse (is_indented line) × (day : List ℕ) × (directive : Directive) × IsHeader tokens day directive
    × (items ≡ header_items day directive))
    ⊎ (IsTrue (is_indented line) × IsTrue may_post × (written : WrittenPosting) × IsPosting tokens written
    × (items ≡ posting_items written))

-- each cause by itself
abbrev pub Holds : Bool → List ℕ → Cause → Type 0
Holds may_post line not_utf8 = IsUtf8 line → ⊥
Holds may_post line too_long = longest_line < length line
Holds may_post line uncut = IsFalse (is_heading line) × ((tokens : List Lexeme) → Cuts tokens line → ⊥)
Holds may_post line unknown_directive =
    (tokens : List Lexeme) × HasTokens line tokens × IsFalse (is_indented line) × IsUnknown tokens
Holds may_post line no_form =
    (tokens : List Lexeme) × HasTokens line tokens × ((items : List Item) → HasForm may_post line tokens items → ⊥)
Holds may_post line (outside fault) =
    (tokens : List Lexeme) × (items : List Item) × HasTokens line tokens × HasForm may_post line tokens items
    × FirstOutside items fault

-- the first cause that holds
pub record IsCauseOf (may_post : Bool) (line : List ℕ) (cause : Cause) : Type 0 where
  pub holds : Holds may_post line cause
  pub first : (other : Cause) → Holds may_post line other → order cause ≤ order other

-- the fault by which it is known
abbrev pub fault_by : Cause → LineFault
fault_by not_utf8 = Faults.NotUtf8
fault_by too_long = Faults.TooLong
fault_by uncut = Faults.Syntax
fault_by unknown_directive = Faults.UnknownDirective
fault_by no_form = Faults.Syntax
fault_by (outside Values.BadNumber) = Faults.BadNumber
fault_by (outside Values.BadName) = Faults.BadName
fault_by (outside Values.BadDay) = Faults.BadDay

-- the fault of a line, where a posting may stand or not
abbrev pub IsFaulty : Bool → List ℕ → LineFault → Type 0
IsFaulty may_post line fault = (cause : Cause) × IsCauseOf may_post line cause × (fault ≡ fault_by cause)
