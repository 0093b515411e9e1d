-- What is written of a statement beside the book that is there, and the status (docs/RULES.md, The program).
use Rattle.std.specs.Prelude.{◌⊎◌, ℕ, Bool, true, false, List, None, Some, OnOk, Option}
use Rattle.std.specs.String.{string_bytes}
use Rattle.sqlite.specs.State.{State}
use Rattle.lot_activity.specs.Scope.{Asked}
use Rattle.lot_args.specs.declared.action.Reconcile.{Reconcile}
use Rattle.lot_cli.specs.Reports.{Reports, Writing, form_of}
use Rattle.lot_cli.specs.Runs.{IsUntouched}
use Rattle.lot_cli.specs.Says.{Halts, Told}
use Rattle.lot_cli.specs.declared.halt.Halt.TheVariants as halt
use Rattle.lot_input.specs.Input.{GivesNone, IsAllOf, Reading}
use Rattle.lot_input.specs.Statement.{IsFaultyStatement}
use Rattle.lot_input.specs.declared.fault.InputFault.{InputFault}
use Rattle.lot_io.specs.Writes.{WritesMade}
use Rattle.lot_legs.specs.Legs.{dated_legs}
use Rattle.lot_reconcile.specs.Table.{Agrees, Terms, terms_with}
use Rattle.lot_statement.specs.Line.{Line}
use Rattle.lot_statement.specs.Statement.{IsStatement}
use Rattle.lot_stream.specs.declared.status.Status.{Status}
use Rattle.lot_stream.specs.declared.status.Status.TheVariants.{Accepted, Refused}
use Rattle.lot_sums.specs.Reconciliation.{ShowsAllReconciliation, ShowsReconciliation, ShowsSomeReconciliation}

-- the legs that are counted: those of the account, or of the accounts whose names begin so, up to the day
abbrev pub legs_asked : Reconcile → Asked
legs_asked asked = record { account = Some (string_bytes asked.account); days = (None, asked.day) }

abbrev pub terms_asked : List Line → Reconcile → Terms
terms_asked lines asked = terms_with lines (legs_asked asked) (form_of asked.format)

-- whether nothing differs, as a status
abbrev pub status_of_agreement : Bool → Status
status_of_agreement true = Accepted
status_of_agreement false = Refused

-- what is written: what differs between the lines and the book, and whether nothing does
abbrev pub differences_writing : Terms → Bool → Writing
differences_writing terms agrees = record {
  of_book = λ place entries start now shown.
      ShowsReconciliation terms entries start now shown × OnOk shown (Agrees terms (dated_legs entries) agrees);
  some = ShowsSomeReconciliation terms;
  rows = ShowsAllReconciliation terms;
  whole = status_of_agreement agrees;
}

-- What is read is no statement, and nothing is done to the book. Or it is one, and what differs between it and the book that is
-- there is written, with a status that says whether anything does.
abbrev pub Reconciles : Reconcile → Reading → State → State → Option (List ℕ) → Option (List ℕ) → WritesMade → Told → Type 0
Reconciles asked reading old new before written calls told =
    ((fault : InputFault) × GivesNone IsFaultyStatement reading fault × IsUntouched old new × Halts (halt.Input fault) before written calls told)
    ⊎ ((input : List ℕ) × IsAllOf reading input × (lines : List Line) × IsStatement input lines × (agrees : Bool)
    × Reports (differences_writing (terms_asked lines asked) agrees) old new before written calls told)
