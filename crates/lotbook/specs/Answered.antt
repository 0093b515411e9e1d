-- What an answer comes to: the action of a call is served on a database, with what is told of the book behind, and what is said of it
-- then leaves the database as it is.
use Rattle.std.specs.Prelude.{◌≡◌, ◌⊎◌, false, ℕ, List, Option, Some}
use Rattle.sqlite.specs.State.{HasCleanDisk, State}
use Rattle.lot_args.specs.declared.action.Action.{Action}
use Rattle.lot_args.specs.declared.request.Preview.{Preview}
use Rattle.lot_call.specs.Looks.{IsLookedAt}
use Rattle.lot_cli.specs.Preview.{ServesWithPreview, outcome}
use Rattle.lot_cli.specs.Says.{told}
use Rattle.lot_cli.specs.Serve.{EndsWith, ReadsNothing}
use Rattle.lot_cli.specs.declared.halt.Halt.{Halt}
use Rattle.lot_host.specs.Answers.{stopped}
use Rattle.lot_input.specs.Input.{reading_between}
use Rattle.lot_io.specs.Reads.{ReadCalls, ReadsMade, no_reads}
use Rattle.lot_io.specs.Writes.{WriteCalls, WritesMade, no_writes}
use Rattle.lot_output.specs.Output.{IsCutOff}

-- the first calls of a reader, and of a writer
abbrev pub reads_from_none : ReadCalls → ReadsMade
reads_from_none calls = record { before = Some no_reads; after = Some calls }

abbrev pub writes_from_none : WriteCalls → WritesMade
writes_from_none calls = record { before = Some no_writes; after = Some calls }

-- The writer holds all that a call wrote that ended with a status, and that is the status of the program. Or something of it is
-- missing there, and the program is stopped.
abbrev pub IsHandedOn : ℕ → Option (List ℕ) → ℕ → Option (List ℕ) → Type 0
IsHandedOn end told status written = ((status ≡ end) × (written ≡ told)) ⊎ ((status ≡ stopped) × IsCutOff told written)

-- nothing is left open in a database, on a disk that returned what was written
abbrev pub IsOutside : State → Type 0
IsOutside s = HasCleanDisk s → s.in_transaction ≡ false

module _ {C : Type 0} (shows : C → State) where
  -- The action is served on the first database and leaves the second, with that status. What is read of the input, what is written,
  -- and what the database then shows, is what the contract of `serve_with_preview` says; where nothing is told behind the answer,
  -- that is what the contract of `serve` says.
  pub record IsServed (input rest : Option (List ℕ)) (reads : ReadsMade) (before written : Option (List ℕ)) (writes : WritesMade) (action : Action) (preview : Preview) (opened left : C) (status : ℕ) (halt : Option Halt) : Type 0 where
    pub serves : ServesWithPreview shows action (reading_between input rest reads) preview opened before writes.before
        (outcome left written writes.after (told status halt))
    pub outside : IsOutside (shows left)
    pub ends : EndsWith action status
    -- an action that needs no input reads none
    pub unread : ReadsNothing action → (rest ≡ input) × (reads.after ≡ reads.before)

  -- The same of an input, from its first byte on, and of a writer, which then holds what was written, or the status is that of a
  -- call that is stopped. The database is only looked at then, and no transaction is open there.
  pub record IsAnswered (input before written : Option (List ℕ)) (action : Action) (preview : Preview) (opened left : C) (status : ℕ) : Type 0 where
    pub rest : Option (List ℕ)
    pub read : ReadCalls
    pub told : Option (List ℕ)
    pub wrote : WriteCalls
    pub end : ℕ
    pub halt : Option Halt
    pub served : C
    pub serves : IsServed input rest (reads_from_none read) before told (writes_from_none wrote) action preview opened served end halt
    pub handed_on : IsHandedOn end told status written
    pub looked : IsLookedAt (shows served) (shows left)
    pub outside : IsOutside (shows left)

  -- the same of some input and some writer: those of the system
  pub record AnswersOnSome (action : Action) (preview : Preview) (opened left : C) (status : ℕ) : Type 0 where
    pub input : Option (List ℕ)
    pub before : Option (List ℕ)
    pub written : Option (List ℕ)
    pub answers : IsAnswered input before written action preview opened left status
