-- What the program makes of one line, and of one line behind others.
use Rattle.std.specs.Prelude.{◌≡◌, ℕ, Bool, true, false, IsTrue, List, [], ◌∷◌, ◌++◌, Option, Some, None, Result, Ok, Err}
use Rattle.lot_command.specs.declared.command.Command.{Command}
use Rattle.lot_command.specs.declared.command.Command.TheVariants.{Transaction}
use Rattle.lot_command.specs.declared.transaction.Posting.{Posting}
use Rattle.lot_command.specs.declared.transaction.Transaction.{Transaction as TransactionOf}
use Rattle.lot_syntax.specs.Token.{Lexeme}
use Rattle.lot_syntax.specs.declared.fault.FormFault.{FormFault}
use Rattle.lot_syntax.specs.declared.fault.FormFault.TheVariants as Forms
use Rattle.lot_read.specs.declared.fault.MeaningFault.{MeaningFault}
use Rattle.lot_read.specs.declared.fault.MeaningFault.TheVariants as Meanings
use Rattle.lot_read.specs.declared.fault.LineFault.TheVariants as Faults
use Rattle.lot_read.specs.declared.fault.TextFault.{TextFault}
use Rattle.lot_read.specs.declared.fault.TextFault.TheVariants as TextFaults
use Rattle.lot_read.specs.declared.line.Context.{Context}
use Rattle.lot_read.specs.declared.line.Context.TheVariants.{InTransaction, Elsewhere}
use Rattle.lot_read.specs.declared.statement.Statement.{Statement}
use Rattle.lot_read.specs.declared.statement.Statement.TheVariants.{Begins, Posts}
use Rattle.lot_read.specs.declared.statement.StatementFault.{StatementFault}
use Rattle.lot_read.specs.declared.statement.StatementFault.TheVariants.{Line, Memory}
use Rattle.lot_read.specs.Line.{IsReadable, HasTokens, IsFaulty, SaysStatement, fault_by, outside, is_indented}
use Rattle.lot_read.specs.Text.{LinesSay, takes_posting}

abbrev pub may_post : Context → Bool
may_post InTransaction = true
may_post Elsewhere = false

-- ---- One line.

-- a posting stands only where one may
abbrev pub Fits : Bool → Option Statement → Type 0
Fits may_post None = Unit {0}
Fits may_post (Some (Begins command)) = Unit {0}
Fits may_post (Some (Posts posting)) = IsTrue may_post

-- what a line says where it stands
abbrev pub SaysAt : Bool → List ℕ → Option Statement → Type 0
SaysAt may_post line said = SaysStatement line said × Fits may_post said

-- what is returned of a line: what it says, or its fault; out of memory only where it says something
abbrev pub GivesStatement : Bool → List ℕ → Result (Option Statement) StatementFault → Type 0
GivesStatement may_post line (Ok said) = SaysAt may_post line said
GivesStatement may_post line (Err (Line fault)) = IsFaulty may_post line fault
GivesStatement may_post line (Err Memory) = (said : Option Statement) × SaysAt may_post line said

-- a line with these tokens, indented or not
pub record IsLineOf (indented : Bool) (tokens : List Lexeme) (line : List ℕ) : Type 0 where
  pub readable : IsReadable line
  pub has : HasTokens line tokens
  pub indent : is_indented line ≡ indented

-- ---- Faults.

abbrev pub of_form : FormFault → StatementFault
of_form Forms.UnknownDirective = Line Faults.UnknownDirective
of_form Forms.Syntax = Line Faults.Syntax

abbrev pub of_meaning : MeaningFault → StatementFault
of_meaning (Meanings.Outside fault) = Line (fault_by (outside fault))
of_meaning Meanings.Memory = Memory

-- the fault of a text for that of its line of that number
abbrev pub of_line : ℕ → StatementFault → TextFault
of_line number (Line fault) = TextFaults.Line number fault
of_line number Memory = TextFaults.Memory number

-- ---- One line behind others.

-- lines that say these commands say those with one more line
abbrev pub Continues : List ℕ → List Command → List Command → Type 0
Continues line before after = (lines : List (List ℕ)) → LinesSay lines before → LinesSay (lines ++ line ∷ []) after

-- why nothing is added for a line
abbrev pub Stops : List ℕ → List Command → StatementFault → Type 0
Stops line before (Line fault) = IsFaulty (takes_posting before) line fault
Stops line before Memory = (after : List Command) × Continues line before after

-- with one more posting
abbrev pub with_posting : TransactionOf → Posting → TransactionOf
with_posting t p = record { day = t.day; flag = t.flag; narration = t.narration; postings = t.postings ++ p ∷ [] }

-- the last command, a transaction, has one more posting
pub record Posted (posting : Posting) (before after : List Command) : Type 0 where
  pub front : List Command
  pub last : TransactionOf
  pub old : before ≡ front ++ Transaction last ∷ []
  pub new : after ≡ front ++ Transaction (with_posting last posting) ∷ []
