-- Which commands a run judges in the place of those that were handed in, each worked out on the book when its turn comes.
use Rattle.std.specs.Prelude.{◌≡◌, ◌≢◌, ◌⊎◌, ℕ, Bool, true, false, IfOk, IsTrue, List, [], ◌∷◌, ◌++◌, length, map, OnErr, OnOk, Option, None, Some, Result, Ok, Err, ⊤}
use Rattle.std.specs.Option.{unwrap_or}
use Rattle.sqlite.specs.State.{HasCleanDisk, KeepsCommit, State, Survives}
use Rattle.lot_command.specs.declared.command.Command.{Command}
use Rattle.lot_command.specs.declared.command.Command.TheVariants.{Transaction}
use Rattle.lot_command.specs.declared.key.Key.{Key}
use Rattle.lot_book.specs.Edition.{Second, ties_in}
use Rattle.lot_book.specs.Booking.{TieRule}
use Rattle.lot_book.specs.Facts.{Entry, Facts, facts_of}
use Rattle.lot_book.specs.Judged.{JudgesOn}
use Rattle.lot_book.specs.Step.{Accept, Outcome, Refuse, Repeat}
use Rattle.lot_book.specs.declared.refusal.Refusal.{Refusal}
use Rattle.lot_book.specs.declared.verdict.Verdict.{Verdict}
use Rattle.lot_book.specs.declared.verdict.Verdict.TheVariants as verdict
use Rattle.lot_completion.specs.Turn.{IsTurnOn, Passes, Tries}
use Rattle.lot_completion.specs.declared.split.SplitProposal.{SplitProposal}
use Rattle.lot_completion.specs.declared.split.SplitProposal.TheVariants as proposed
use Rattle.lot_completion.specs.declared.turn.Proposal.{Proposal}
use Rattle.lot_completion.specs.declared.turn.Proposal.TheVariants as proposal
use Rattle.lot_completion.specs.declared.watch.Note.{Note}
use Rattle.lot_completion.specs.declared.watch.Note.TheVariants as note
use Rattle.lot_rounding.specs.declared.asked.Asked.{Asked}
use Rattle.lot_rounding.specs.declared.rounding.Rounding.{Rounding}
use Rattle.lot_stored.specs.StandFor.{Stands}
use Rattle.lot_table.specs.Statement.{DiskFailed}
use Rattle.lot_store.specs.Apply.{StandsWith}
use Rattle.lot_store.specs.Run.{RunsBook}
use Rattle.lot_store.specs.declared.book.Condition.{Condition}
use Rattle.lot_store.specs.declared.fault.StoreFault.{StoreFault}
use Rattle.lot_store.specs.declared.fault.StoreFault.TheVariants.{Damaged, Device, InDoubt, Memory, NeedsReopen}
use Rattle.lot_store.specs.declared.run.RunEnd.{RunEnd}
use Rattle.lot_store.specs.declared.turn.Turn.{Turn}

-- ---- one command

-- a command as it was handed in, under its key
abbrev pub handed : Key × Asked → Key × Command
handed asked = (asked.0, asked.1.command)

-- a command is judged on a book in the place of one that was handed in, under the same key
abbrev pub IsTurned : Option Rounding → List Entry → Key × Asked → Key × Command → Type 0
IsTurned rounding book asked turned = (turned.0 ≡ asked.0) × IsTurnOn book asked.0 rounding asked.1 turned.1

-- what is judged: another command, where there is one, else what was handed in
abbrev pub judged_of : Turn → Asked → Command
judged_of turn asked = unwrap_or turn.other asked.command

-- why a command is refused, if it is
abbrev pub refusal_of : Outcome → Option Refusal
refusal_of (Accept legs) = None
refusal_of Repeat = None
refusal_of (Refuse refusal) = Some refusal

-- what there is to tell of a command that came to a verdict: what an account took of one that was accepted, and why a completion or
-- a split isn't judged of one that is refused
abbrev pub FitsVerdict : Verdict → Note → Type 0
FitsVerdict judged (note.Taken crumbs) = judged ≡ verdict.Accepted
FitsVerdict judged (note.Beyond currency crumb) = (refusal : Refusal) × (judged ≡ verdict.Refused refusal)
FitsVerdict judged (note.Refused why) = (refusal : Refusal) × (judged ≡ verdict.Refused refusal)
FitsVerdict judged (note.Unsplit fault) = (refusal : Refusal) × (judged ≡ verdict.Refused refusal)
FitsVerdict judged (note.Untaken completion) = ⊥

-- the completion that is tried, if one is
abbrev pub completed_by : Proposal → Option Command
completed_by proposal.Nothing = None
completed_by (proposal.Beyond currency crumb) = None
completed_by (proposal.Completion completion) = Some (Transaction completion.transaction)
completed_by (proposal.Standing stands) = Some (Transaction stands)

-- the split that is tried, if one is
abbrev pub split_by : SplitProposal → Option Command
split_by proposed.Nothing = None
split_by (proposed.Impossible fault) = None
split_by (proposed.Split made) = Some (Transaction made.transaction)
split_by (proposed.Standing stands) = Some (Transaction stands)

-- what is tried in the place of a command, on what is known, if anything is
abbrev pub IsTrial : TieRule → Facts → Rounding → Asked → Option Command → Type 0
IsTrial ties facts rounding asked None = (other : Command) → Tries ties facts rounding asked other → ⊥
IsTrial ties facts rounding asked (Some other) = Tries ties facts rounding asked other

-- Another command is tried in the place of one on a book: it is judged there where it is accepted or repeats an entry.
abbrev pub IsTried : List Entry → Key → Command → Option Command → Type 0
IsTried book key other None = Passes (ties_in Second book) (facts_of book key) other → ⊥
IsTried book key other (Some judged) = (judged ≡ other) × Passes (ties_in Second book) (facts_of book key) other

-- ---- working out what is judged

-- the tables are as they were, and the connection is open or not
abbrev pub IsAsBefore : State → State → Type 0
IsAsBefore old new = (new.now ≡ old.now) × (new.is_open ≡ old.is_open)

-- What is judged in the place of a command is worked out on the books that what is kept is of. Nothing is changed.
pub record TurnsTo (Kept KeptThen : List Entry → Type 0) (rounding : Option Rounding) (keyed : Key × Asked) (old new : State)
    (result : Result Turn StoreFault) : Type 0 where
  pub turns : HasCleanDisk new → IfOk result (λ turn. (entries : List Entry) → StandsWith Kept old entries
      → IsTurned rounding entries keyed (keyed.0, judged_of turn keyed.1) × KeptThen entries)
  pub same : HasCleanDisk new → OnOk result (IsAsBefore old new)
  pub rest : HasCleanDisk new → OnErr result (KeepsCommit old new × (IsTrue new.is_open → new.now ≡ old.now))
  -- damage is found only where no such book is there
  pub damaged : HasCleanDisk new → result ≡ Err Damaged → (entries : List Entry) → ¬ StandsWith Kept old entries
  pub device : HasCleanDisk new → result ≡ Err Device → DiskFailed old new
  pub sure : result ≢ Err InDoubt
  pub usable : result ≢ Err NeedsReopen
  pub crash : Survives old new (λ _. ⊥)

-- ---- a run

-- Commands are judged one after another from a book, each in the place of what was handed in: these are the verdicts, and the
-- book after all.
abbrev pub AreTurnedOn : Option Rounding → List Entry → List (Key × Asked) → List (Key × Command) → List Verdict → List Entry → Type 0
AreTurnedOn rounding before [] [] [] after = after ≡ before
AreTurnedOn rounding before (asked ∷ more) (turned ∷ others) (verdict ∷ verdicts) after =
    IsTurned rounding before asked turned
    × (mid : List Entry) × JudgesOn before turned.0 turned.1 verdict mid × AreTurnedOn rounding mid more others verdicts after
AreTurnedOn rounding before _ _ _ after = ⊥

-- whether an answer tells that the command was judged: a verdict does, and a commit in doubt
abbrev pub is_judged : Result Verdict StoreFault → Bool
is_judged (Ok judged) = true
is_judged (Err InDoubt) = true
is_judged (Err Device) = false
is_judged (Err NeedsReopen) = false
is_judged (Err Damaged) = false
is_judged (Err Memory) = false

-- The command at which a run ends is judged in the place of what was handed in. Where nothing tells that it was judged, it may
-- also be what was handed in itself.
abbrev pub IsLastTurned : Bool → Option Rounding → List Entry → Key × Asked → Key × Command → Type 0
IsLastTurned true rounding book asked turned = IsTurned rounding book asked turned
IsLastTurned false rounding book asked turned = IsTurned rounding book asked turned ⊎ (turned ≡ handed asked)

-- the commands that are left at the end of a run: that at which it ends, and the others as they were handed in
abbrev pub AreLeft : Bool → Option Rounding → List Entry → List (Key × Asked) → List (Key × Command) → Type 0
AreLeft judged rounding book [] [] = ⊤
AreLeft judged rounding book (asked ∷ more) (turned ∷ others) =
    IsLastTurned judged rounding book asked turned × (others ≡ map handed more)
AreLeft judged rounding book _ _ = ⊥

-- A run judges these commands in the place of those that were handed in. So many were replied to, with their verdicts, and the
-- answer is that to the next one.
pub record AreTurned (rounding : Option Rounding) (entries : List Entry) (asked : List (Key × Asked)) (turned : List (Key × Command))
    (replied : ℕ) (answer : Result Verdict StoreFault) : Type 0 where
  pub verdicts : List Verdict
  pub counted : replied ≡ length verdicts
  pub first : List (Key × Asked)
  pub rest : List (Key × Asked)
  pub asked_are : asked ≡ first ++ rest
  pub done : List (Key × Command)
  pub left : List (Key × Command)
  pub turned_are : turned ≡ done ++ left
  pub book : List Entry
  pub turns : AreTurnedOn rounding entries first done verdicts book
  pub next : AreLeft (is_judged answer) rounding book rest left

-- A run of commands that were handed in is one of those that are judged in their place.
abbrev pub RunsTurned : Option Rounding → List (Key × Asked) → ℕ → State → State → Option (List ℕ) → Option (List ℕ)
    → Condition → Condition → RunEnd → Type 0
RunsTurned rounding asked from old new before written was condition end =
    (turned : List (Key × Command)) × (runs : RunsBook turned from old new before written was condition end)
    × (HasCleanDisk new → (entries : List Entry) → Stands old entries
    → AreTurned rounding entries asked turned end.replied runs.0)
