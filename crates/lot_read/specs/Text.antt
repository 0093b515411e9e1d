-- Ledger text (docs/FORMATS.md, Ledger text): which commands it says, and which is its first faulty line.
use Rattle.std.specs.Prelude.{◌≡◌, ◌≤◌, ℕ, ◌+◌, Bool, true, false, List, [], ◌∷◌, ◌++◌, length, map, flat_map, Option, Some, None}
use Rattle.std.specs.List.{AllZip}
use Rattle.lot_command.specs.declared.command.Command.{Command}
use Rattle.lot_command.specs.declared.command.Command.TheVariants.{Opening, Closing, Declaring, Quoting, Transaction}
use Rattle.lot_command.specs.declared.transaction.Transaction.{Transaction as TransactionOf}
use Rattle.lot_syntax.specs.Line.{AreLines}
use Rattle.lot_read.specs.Line.{SaysStatement, IsFaulty}
use Rattle.lot_read.specs.declared.fault.LineFault.{LineFault}
use Rattle.lot_read.specs.declared.fault.TextFault.{TextFault}
use Rattle.lot_read.specs.declared.fault.TextFault.TheVariants as Faults
use Rattle.lot_read.specs.declared.statement.Statement.{Statement}
use Rattle.lot_read.specs.declared.statement.Statement.TheVariants.{Begins, Posts}

-- ---- The commands of lines.

abbrev pub without_postings : TransactionOf → TransactionOf
without_postings t = record { day = t.day; flag = t.flag; narration = t.narration; postings = [] }

-- the statements of a command: a line on which it begins, and a line for each posting of a transaction
abbrev pub statements_of : Command → List Statement
statements_of (Transaction t) = Begins (Transaction (without_postings t)) ∷ map Posts t.postings
statements_of (Opening o) = Begins (Opening o) ∷ []
statements_of (Closing c) = Begins (Closing c) ∷ []
statements_of (Declaring d) = Begins (Declaring d) ∷ []
statements_of (Quoting q) = Begins (Quoting q) ∷ []

-- without those that are absent
abbrev pub present : List (Option Statement) → List Statement
present [] = []
present (None ∷ rest) = present rest
present (Some statement ∷ rest) = statement ∷ present rest

-- the lines say the statements of the commands, one command after another; between them lines are skipped
pub record LinesSay (lines : List (List ℕ)) (commands : List Command) : Type 0 where
  pub said : List (Option Statement)
  pub each : AllZip SaysStatement lines said
  pub all : present said ≡ flat_map statements_of commands

-- ---- The first faulty line.

abbrev pub is_transaction : Command → Bool
is_transaction (Transaction t) = true
is_transaction (Opening o) = false
is_transaction (Closing c) = false
is_transaction (Declaring d) = false
is_transaction (Quoting q) = false

-- a posting may follow: the last of the commands is a transaction
abbrev pub takes_posting : List Command → Bool
takes_posting [] = false
takes_posting (command ∷ []) = is_transaction command
takes_posting (command ∷ next ∷ commands) = takes_posting (next ∷ commands)

-- the line of that number, from 1, is the first faulty one: those before it say commands, and behind these it is faulty
pub record IsFirstFault (lines : List (List ℕ)) (number : ℕ) (fault : LineFault) : Type 0 where
  pub before : List (List ℕ)
  pub line : List ℕ
  pub after : List (List ℕ)
  pub whole : lines ≡ before ++ line ∷ after
  pub place : number ≡ length before + 1
  pub commands : List Command
  pub says : LinesSay before commands
  pub faulty : IsFaulty (takes_posting commands) line fault

-- ---- What a text says.

-- the commands of a text
abbrev pub Reads : List ℕ → List Command → Type 0
Reads text commands = (lines : List (List ℕ)) × AreLines lines text × LinesSay lines commands

-- the number of the first faulty line of a text, from 1, and its fault
abbrev pub IsFaultAt : List ℕ → ℕ → LineFault → Type 0
IsFaultAt text number fault = (lines : List (List ℕ)) × AreLines lines text × IsFirstFault lines number fault

-- memory ends at the line of that number, from 1: the lines up to it and with it say commands
pub record RunsOutAt (text : List ℕ) (number : ℕ) : Type 0 where
  pub lines : List (List ℕ)
  pub after : List (List ℕ)
  pub whole : AreLines (lines ++ after) text
  pub place : number ≡ length lines
  pub from_one : 1 ≤ number
  pub commands : List Command
  pub says : LinesSay lines commands

-- the fault of a text is at its first faulty line, or memory ends at a line before that
abbrev pub IsFaultOf : List ℕ → TextFault → Type 0
IsFaultOf text (Faults.Line number fault) = IsFaultAt text number fault
IsFaultOf text (Faults.Memory number) = RunsOutAt text number
