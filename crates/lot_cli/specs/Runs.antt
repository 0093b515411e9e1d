-- What is run of an input on the book that is there (docs/RULES.md, The program).
use Rattle.std.specs.Io.KnownBytes.{Appends}
use Rattle.std.specs.Prelude.{◌≡◌, ◌≢◌, ◌⊎◌, ℕ, zero, suc, IsTrue, List, [], ◌∷◌, ◌++◌, get_or, length, None, Option, Result, Err, Some, option_map}
use Rattle.std.specs.List.{range_with_len}
use Rattle.sqlite.specs.State.{HasCleanDisk, State, Survives}
use Rattle.sqlite.specs.Tree.{Trees}
use Rattle.lot_stream.specs.Status.{code_of}
use Rattle.lot_stream.specs.declared.status.Status.{Status}
use Rattle.lot_stream.specs.declared.status.Status.TheVariants.{Accepted, Refused, Stopped}
use Rattle.lot_command.specs.declared.command.Command.{Command}
use Rattle.lot_command.specs.declared.key.Key.{Key}
use Rattle.lot_book.specs.Facts.{Entry}
use Rattle.lot_book.specs.declared.verdict.Verdict.{Verdict}
use Rattle.lot_rounding.specs.declared.asked.Asked.{Asked}
use Rattle.lot_rounding.specs.declared.rounding.Rounding.{Rounding}
use Rattle.lot_rows.specs.Tables.{Has, Tables}
use Rattle.lot_store.specs.declared.fault.StoreFault.{StoreFault}
use Rattle.lot_stored.specs.StandFor.{Stands}
use Rattle.lot_args.specs.declared.action.Keeping.{Keeping}
use Rattle.lot_args.specs.declared.action.Keeping.TheVariants.{AllOrNone, Each}
use Rattle.lot_atomic.specs.Replies.{RunsAll, number_at, replies_by}
use Rattle.lot_import.specs.declared.accounts.Accounts.{Accounts}
use Rattle.lot_input.specs.Input.{Gives, GivesNone, Reading}
use Rattle.lot_input.specs.Exported.{ExportMeans, IsFaultyExport}
use Rattle.lot_profile.specs.declared.profile.Profile.{Profile}
use Rattle.lot_input.specs.Rows.{FileMeans, IsFaultyFile}
use Rattle.lot_input.specs.Text.{IsFaultyText, RowMeans, TextMeans}
use Rattle.lot_input.specs.declared.fault.InputFault.{InputFault}
use Rattle.lot_cli.specs.AllOrNone.{that_count}
use Rattle.lot_cli.specs.Sessions.{AllOrNoneLeaves}
use Rattle.lot_cli.specs.Reopen.{LeavesOneOf}
use Rattle.lot_cli.specs.Says.{Halts, Told}
use Rattle.lot_io.specs.Writes.{IsFlushed, WritesMade}
use Rattle.lot_report.specs.Written.{IsPrefixOf}
use Rattle.lot_cli.specs.declared.halt.Halt.TheVariants as halt
use Rattle.lot_store.specs.Create.{IsHandedBack, IsTaken, TellsBook, TellsOf}
use Rattle.lot_store.specs.ByText.{RunsByText}
use Rattle.lot_store.specs.Run.{EndsBehind, IsWrittenOut, LeavesAfter, WritesEnd, answer_line, count_refused, fault_line}
use Rattle.lot_store.specs.Session.{LeavesFirst, LeavesStopped, Session}
use Rattle.lot_store.specs.Turned.{AreTurned}
use Rattle.lot_store.specs.declared.fault.AdoptFault.{AdoptFault}
use Rattle.lot_store.specs.declared.fault.AdoptFault.TheVariants as adopt
use Rattle.lot_store.specs.declared.fault.StoreFault.TheVariants.{NeedsReopen}
use Rattle.lot_store.specs.declared.run.Ending.{Ending}
use Rattle.lot_store.specs.declared.run.Ending.TheVariants as ending
use Rattle.lot_store.specs.declared.run.RunEnd.{RunEnd}
use Rattle.lot_table.specs.Book.{IsUndone}

-- ---- the book

-- nothing was asked of the database
pub record IsUntouched (old new : State) : Type 0 where
  pub now : new.now ≡ old.now
  pub committed : new.committed ≡ old.committed
  pub is_open : new.is_open ≡ old.is_open
  pub crash : Survives old new (λ _. ⊥)

-- The database isn't taken up as a book, for what its table `book` tells, or for why the database doesn't tell it. It is
-- handed back as it was.
pub record IsLeft (old new : State) (fault : AdoptFault) : Type 0 where
  pub tells : HasCleanDisk new → TellsOf old new (Err fault)
  pub told : HasCleanDisk new → fault ≢ adopt.Device → (tables : Tables) → Has old tables → TellsBook tables.book (Err fault)
  pub handed_back : HasCleanDisk new → IsHandedBack old new
  pub undone : HasCleanDisk new → IsUndone old new
  pub crash : Survives old new (λ _. ⊥)

-- ---- how a run ends

-- the status of a run that ended so, of whose replies so many refuse: a fault goes before a refusal
abbrev pub status_ending : Ending → ℕ → Status
status_ending ending.Complete zero = Accepted
status_ending ending.Complete (suc refused) = Refused
status_ending (ending.Stopped fault) refused = Stopped
status_ending ending.Output refused = Stopped

abbrev pub status_of_run : RunEnd → Status
status_of_run end = status_ending end.ending end.refused

-- a run on a book that was just taken up never says that it needs reopening
abbrev pub NeverReopens : Result Verdict StoreFault → Ending → Type 0
NeverReopens answer end = (answer ≢ Err NeedsReopen) × (end ≢ ending.Stopped NeedsReopen)

-- ---- commands that are kept one by one

-- the first of some numbers, and 1 where there is none
abbrev pub first_number : List ℕ → ℕ
first_number numbers = get_or numbers 0 1

-- each of them is the one behind the number before it
abbrev pub FollowOneAnother : List ℕ → Type 0
FollowOneAnother numbers = numbers ≡ range_with_len (first_number numbers) (length numbers)

-- What is written behind the replies to the verdicts, where the commands have these numbers. It is nothing, or the line of the
-- fault. Where the writer failed, it is some of the line of the answer to the next command.
abbrev pub WritesEndBy : List ℕ → List Verdict → Result Verdict StoreFault → Ending → Option (List ℕ) → Option (List ℕ) → Type 0
WritesEndBy numbers verdicts answer ending.Complete old new = Appends old new (replies_by numbers verdicts)
WritesEndBy numbers verdicts answer (ending.Stopped fault) old new =
    Appends old new (replies_by numbers verdicts ++ fault_line (number_at numbers (length verdicts)) fault)
WritesEndBy numbers verdicts answer ending.Output old new =
    (prefix : List ℕ) × IsPrefixOf prefix (answer_line (number_at numbers (length verdicts)) answer)
    × Appends old new (replies_by numbers verdicts ++ prefix)

-- A run of commands on a book in a file, as `RunsSession` of `lot_store` is, where each command has a number of its own.
pub record RunsNumbered (numbers : List ℕ) (commands : List (Key × Command)) (old new : State) (before written : Option (List ℕ))
    (answer : Result Verdict StoreFault) (end : RunEnd) : Type 0 where
  pub verdicts : List Verdict
  pub replied : end.replied ≡ length verdicts
  pub refused : end.refused ≡ count_refused verdicts
  -- on a book the lines have the numbers of their commands
  pub lines : HasCleanDisk new → (entries : List Entry) → Stands old entries
      → WritesEndBy numbers verdicts answer end.ending before written
  -- where the numbers follow one another, the lines have them whatever the tables stand for
  pub in_a_row : FollowOneAnother numbers → WritesEnd (first_number numbers) verdicts answer end.ending before written
  pub place : EndsBehind (length commands) (length verdicts) answer end.ending
  pub session : HasCleanDisk new → (entries : List Entry) → Stands old entries
      → (book : List Entry) × (left : List (Key × Command)) × Session entries commands verdicts book left
      × LeavesAfter verdicts book left old new answer end.ending
  -- of a connection that was open a stop leaves the book after the commands that were replied to, or after one more, which was
  -- accepted
  pub stop : HasCleanDisk new → IsTrue old.is_open → (entries : List Entry) → Stands old entries
      → (trees : Trees) → new.may_leave trees → LeavesStopped entries commands verdicts trees
  pub crash : Survives old new (λ trees. (entries : List Entry) → Stands old entries → LeavesFirst entries commands trees)
  -- whatever the tables stand for, each verdict is by the text under its key, and the writes of each accepted command are made
  pub texts : HasCleanDisk new → (tables : Tables) → Has old tables
      → RunsByText tables commands verdicts old new answer end.ending

-- Commands are run, each in one commit: each that was handed in, or another in its place where an account takes crumbs. The answer
-- is that to the command at which the writer failed. Where all was flushed before, all is then and no call of the writer failed,
-- or one did.
pub record RunsEach (rounding : Option Rounding) (numbers : List ℕ) (asked : List (Key × Asked)) (old new : State)
    (before written : Option (List ℕ)) (calls : WritesMade) (end : RunEnd) : Type 0 where
  pub turned : List (Key × Command)
  pub answer : Result Verdict StoreFault
  pub session : RunsNumbered numbers turned old new before written answer end
  pub are_turned : HasCleanDisk new → (entries : List Entry) → Stands old entries
      → AreTurned rounding entries asked turned end.replied answer
  pub never_reopens : NeverReopens answer end.ending
  pub output : IsFlushed calls.before → IsWrittenOut end.ending calls

-- ---- commands that are kept all or none

-- Commands are run all or none, in one commit. All that is written is flushed, and no call of the writer failed, or one did.
pub record RunsWhole (rounding : Option Rounding) (numbers : List ℕ) (asked : List (Key × Asked)) (old new : State)
    (before written : Option (List ℕ)) (calls : WritesMade) (end : RunEnd) : Type 0 where
  pub runs : RunsAll rounding asked numbers old new before written end
  -- of a connection that was open a stop leaves what it does of a session that is kept all or none, with the replies that count
  pub stop : HasCleanDisk new → IsTrue old.is_open → (entries : List Entry) → Stands old entries
      → LeavesOneOf (AllOrNoneLeaves entries runs.applies.0 (that_count runs.ended runs.verdicts)) new.may_leave
  pub never_reopens : end.ending ≢ ending.Stopped NeedsReopen
  pub output : IsWrittenOut end.ending calls

-- ---- commands

-- commands of these numbers are run, in a commit each, or in one
abbrev pub RunsBy : Keeping → Option Rounding → List ℕ → List (Key × Asked) → State → State → Option (List ℕ) → Option (List ℕ)
    → WritesMade → RunEnd → Type 0
RunsBy Each = RunsEach
RunsBy AllOrNone = RunsWhole

-- they are run on the book that is there
pub record Runs (rounding : Option Rounding) (keeping : Keeping) (numbers : List ℕ) (asked : List (Key × Asked)) (old new : State)
    (before written : Option (List ℕ)) (calls : WritesMade) (told : Told) : Type 0 where
  pub taken : HasCleanDisk new → IsTaken old
  pub end : RunEnd
  pub runs : RunsBy keeping rounding numbers asked old new before written calls end
  pub status : told.status ≡ code_of (status_of_run end)
  pub goes_on : told.halt ≡ None

-- so they are, or the book isn't taken up
abbrev pub RunsOn : Option Rounding → Keeping → List ℕ → List (Key × Asked) → State → State → Option (List ℕ) → Option (List ℕ)
    → WritesMade → Told → Type 0
RunsOn rounding keeping numbers asked old new before written calls told =
    Runs rounding keeping numbers asked old new before written calls told
    ⊎ ((fault : AdoptFault) × IsLeft old new fault × Halts (halt.Adopt fault) before written calls told)

-- ---- an input

-- What is read gives no commands, and nothing is done to the book; or those that it gives are run. `Means` tells which numbers and
-- commands an input gives, and `IsFaulty` which fault it has.
abbrev pub RunsInput : (List ℕ → List ℕ × List (Key × Asked) → Type 0) → (List ℕ → InputFault → Type 0) → Option Rounding → Keeping
    → Reading → State → State → Option (List ℕ) → Option (List ℕ) → WritesMade → Told → Type 0
RunsInput Means IsFaulty rounding keeping reading old new before written calls told =
    ((fault : InputFault) × GivesNone IsFaulty reading fault × IsUntouched old new × Halts (halt.Input fault) before written calls told)
    ⊎ ((given : List ℕ × List (Key × Asked)) × Gives Means reading given
    × RunsOn rounding keeping given.0 given.1 old new before written calls told)

-- ledger text that is posted, and a broker file that is imported (docs/RULES.md, The program)
abbrev pub Posts : List ℕ → Option Rounding → ℕ → Keeping → Reading → State → State → Option (List ℕ) → Option (List ℕ)
    → WritesMade → Told → Type 0
Posts batch rounding from = RunsInput (TextMeans batch from) IsFaultyText rounding

-- how many decimals the cash of a row has, where an account takes crumbs
abbrev pub decimals_of : Option Rounding → Option ℕ
decimals_of rounding = option_map (λ (r : Rounding). r.decimals) rounding

abbrev pub Imports : List ℕ → Accounts → Option Rounding → ℕ → List (List ℕ) → Keeping → Reading → State → State → Option (List ℕ)
    → Option (List ℕ) → WritesMade → Told → Type 0
Imports batch accounts rounding from except =
    RunsInput (FileMeans batch accounts (decimals_of rounding) from except) (IsFaultyFile (decimals_of rounding) except) rounding

-- a broker's export that is imported by a profile; the account for crumbs is that of the profile
abbrev pub ImportsBy : List ℕ → Profile → Option Rounding → List (List ℕ) → Keeping → Reading → State → State → Option (List ℕ)
    → Option (List ℕ) → WritesMade → Told → Type 0
ImportsBy batch profile rounding except = RunsInput (ExportMeans batch profile except) (IsFaultyExport profile except) rounding

-- ---- a command in place of a row

-- the number with which the program ends where its words and its text don't fit one another
abbrev pub unfit : ℕ
unfit = 2

-- the input is ledger text of one command, and this is that command under the key of the row, alone in the list, with the number 1
abbrev pub RowAlone : List ℕ → List ℕ → List ℕ → List ℕ × List (Key × Asked) → Type 0
RowAlone batch reference input given =
    (one : Key × Asked) × RowMeans batch reference input (Some one) × (given ≡ (1 ∷ [], one ∷ []))

-- what is read is ledger text without a command, or of several: nothing is done to the book, and nothing is written
pub record IsUnfit (batch reference : List ℕ) (reading : Reading) (old new : State)
    (before written : Option (List ℕ)) (calls : WritesMade) (told : Told) : Type 0 where
  pub given : Gives (RowMeans batch reference) reading None
  pub untouched : IsUntouched old new
  pub silent : (written ≡ before) × (calls.after ≡ calls.before)
  pub ends : (told.status ≡ unfit) × (told.halt ≡ None)

-- the one command of ledger text that is posted in place of a row of a broker file
abbrev pub PostsRow : List ℕ → List ℕ → Option Rounding → Reading → State → State → Option (List ℕ)
    → Option (List ℕ) → WritesMade → Told → Type 0
PostsRow batch reference rounding reading old new before written calls told =
    IsUnfit batch reference reading old new before written calls told
    ⊎ RunsInput (RowAlone batch reference) IsFaultyText rounding Each reading old new before written calls told
