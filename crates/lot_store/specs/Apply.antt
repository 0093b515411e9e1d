-- What applying one command says of a book in a file.
use Rattle.std.specs.Prelude.{◌≡◌, ◌⊎◌, IfSome, IsTrue, List, None, Ok, Err, Option, Result, Some}
use Rattle.std.specs.Result.{result_ok}
use Rattle.sqlite.specs.State.{HasCleanDisk, IsUnchanged, KeepsCommit, State, Survives}
use Rattle.sqlite.specs.Tree.{Trees}
use Rattle.lot_command.specs.declared.command.Command.{Command}
use Rattle.lot_command.specs.declared.key.Key.{Key}
use Rattle.lot_book.specs.Facts.{Entry}
use Rattle.lot_book.specs.Judged.{JudgesOn}
use Rattle.lot_book.specs.Openings.{AgreesWithOpenings, FactsWithOpenings, IsAcceptedWith, facts_with_openings}
use Rattle.lot_book.specs.declared.change.Change.{Change}
use Rattle.lot_book.specs.declared.verdict.Verdict.{Verdict}
use Rattle.lot_book.specs.declared.verdict.Verdict.TheVariants as verdict
use Rattle.lot_load.specs.Kept.{IsOf}
use Rattle.lot_load.specs.declared.kept.Kept.{Kept as Known}
use Rattle.lot_stored.specs.StandFor.{Stands}
use Rattle.lot_write.specs.Call.{Stops as StopsWriting}
use Rattle.lot_write.specs.Write.{written_all}
use Rattle.lot_write.specs.Writes.{AreNumbered, writes_of}
use Rattle.lot_write.specs.declared.write.Write.{Write}
use Rattle.lot_rows.specs.Tables.{Has, Tables, layout}
use Rattle.lot_table.specs.Book.{Holds}
use Rattle.lot_table.specs.Statement.{DiskFailed}
use Rattle.lot_table.specs.declared.fault.Fault as table
use Rattle.sqlite.specs.declared.error.Error.{Error}
use Rattle.sqlite.specs.declared.error.Error.TheVariants.{SqliteFailure}
use Rattle.sqlite.specs.declared.error.ErrorCode.TheVariants as code
use Rattle.lot_store.specs.declared.book.Condition.{Condition}
use Rattle.lot_store.specs.declared.book.Condition.TheVariants.{Ready, NeedsReopen as MustReopen}
use Rattle.lot_store.specs.declared.fault.StoreFault.{StoreFault}
use Rattle.lot_store.specs.declared.fault.StoreFault.TheVariants.{Device, InDoubt, NeedsReopen, Damaged, Memory}
use Rattle.lot_store.specs.Damage.{MeetsDamage, MeetsUnpaired}
use Rattle.lot_store.specs.Session.{LeavesEntry}

-- ---- faults

-- of the tables
abbrev pub store_fault_of : table.Fault → StoreFault
store_fault_of table.TheVariants.Device = Device
store_fault_of table.TheVariants.Damaged = Damaged
store_fault_of table.TheVariants.Memory = Memory

-- of a commit: but for memory nobody knows whether it was made
abbrev pub commit_fault_of : Error → StoreFault
commit_fault_of (SqliteFailure code.OutOfMemory) = Memory
commit_fault_of _ = InDoubt

abbrev pub commit_outcome : {A : Type 0} → Result A Error → Result A StoreFault
commit_outcome (Ok done) = Ok done
commit_outcome (Err error) = Err (commit_fault_of error)

-- ---- the condition of a book

abbrev pub ready_of : Condition → Result (Unit {0}) StoreFault
ready_of Ready = Ok tt
ready_of MustReopen = Err NeedsReopen

-- after a failure of the device, and after one in doubt, a book needs reopening
abbrev pub condition_after : Result Verdict StoreFault → Condition
condition_after (Ok judged) = Ready
condition_after (Err Device) = MustReopen
condition_after (Err InDoubt) = MustReopen
condition_after (Err NeedsReopen) = MustReopen
condition_after (Err Damaged) = Ready
condition_after (Err Memory) = Ready

-- ---- writing in one commit

-- the tables become what the writes make of them, and so does the last commit
pub record WritesDown (writes : List Write) (old new : State) : Type 0 where
  pub tables : (tables : Tables) → Has old tables → Has new (written_all writes tables)
  pub is_open : IsTrue new.is_open
  pub committed : new.committed ≡ new.now

-- a crash may leave what the writes make of the tables: where they are committed, and where nobody knows or memory refused
-- the commit
abbrev pub MayWrite : {A : Type 0} → List Write → State → Result A StoreFault → Trees → Type 0
MayWrite writes old (Ok done) trees = (tables : Tables) → Has old tables → Holds layout trees (written_all writes tables)
MayWrite writes old (Err InDoubt) trees = (tables : Tables) → Has old tables → Holds layout trees (written_all writes tables)
MayWrite writes old (Err Memory) trees = (tables : Tables) → Has old tables → Holds layout trees (written_all writes tables)
MayWrite writes old (Err Device) trees = ⊥
MayWrite writes old (Err NeedsReopen) trees = ⊥
MayWrite writes old (Err Damaged) trees = ⊥

-- ---- applying a command

-- What a crash may leave anew, by the answer: the book with the entry of the command. This is where it is committed, where
-- nobody knows, or where memory refused the commit.
abbrev pub MayAdd : (List Entry → Type 0) → Key → Command → Result Verdict StoreFault → Trees → Type 0
MayAdd Before key command (Ok verdict.Accepted) trees = (entries : List Entry) → Before entries → LeavesEntry entries key command trees
MayAdd Before key command (Ok verdict.Repeated) trees = ⊥
MayAdd Before key command (Ok (verdict.Refused refusal)) trees = ⊥
MayAdd Before key command (Err InDoubt) trees = (entries : List Entry) → Before entries → LeavesEntry entries key command trees
MayAdd Before key command (Err Memory) trees = (entries : List Entry) → Before entries → LeavesEntry entries key command trees
MayAdd Before key command (Err Device) trees = ⊥
MayAdd Before key command (Err NeedsReopen) trees = ⊥
MayAdd Before key command (Err Damaged) trees = ⊥

-- a repeated command and a refused one change nothing
abbrev pub LeavesAlone : Option Verdict → State → State → Type 0
LeavesAlone (Some verdict.Accepted) old new = Unit {0}
LeavesAlone (Some verdict.Repeated) old new = IsUnchanged old new
LeavesAlone (Some (verdict.Refused refusal)) old new = IsUnchanged old new
LeavesAlone None old new = KeepsCommit old new × (IsTrue new.is_open → new.now ≡ old.now)

-- what applying a command comes to, where `Before` tells which book is there before it, and `After` which one after it
pub record AppliesOn (Before After : List Entry → Type 0) (key : Key) (command : Command) (old new : State) (result : Result Verdict StoreFault) : Type 0 where
  -- where a book is there, the verdict is that of a step of edition 2 on it, and the book after the step is there then
  pub judged : HasCleanDisk new → (entries : List Entry) → Before entries
      → IfSome (result_ok result) (λ verdict. (after : List Entry) × JudgesOn entries key command verdict after × After after)
  -- with the verdict all is committed
  pub settled : HasCleanDisk new → IfSome (result_ok result) (λ verdict. IsTrue new.is_open × (new.committed ≡ new.now))
  -- without one the last commit stands, and while the connection is open its tables are as they were
  pub rest : HasCleanDisk new → LeavesAlone (result_ok result) old new
  -- damage is found only where no book is there
  pub damaged : HasCleanDisk new → result ≡ Err Damaged → (entries : List Entry) → ¬ Before entries
  pub crash : Survives old new (MayAdd Before key command result)

-- the tables stand for a book, and what is kept is of it
abbrev pub StandsWith : (List Entry → Type 0) → State → List Entry → Type 0
StandsWith Kept s entries = Stands s entries × Kept entries

-- the same of the books that what is kept before it is of; what is kept then is of the book after it
abbrev pub AppliesWith : (Kept KeptThen : List Entry → Type 0) → Key → Command → State → State → Result Verdict StoreFault → Type 0
AppliesWith Kept KeptThen key command old new = AppliesOn (StandsWith Kept old) (StandsWith KeptThen new) key command old new

-- ---- a device that refuses

-- The database has no room for what a command writes: a number of it doesn't fit its column, or a row its table. The command
-- is accepted on facts that agree with the book's, and so do their opening numbers.
pub record HasNoRoomFor (key : Key) (command : Command) (entries : List Entry) (tables : Tables) (before : Trees) (new : State)
    : Type 0 where
  pub known : FactsWithOpenings
  pub change : Change
  pub agrees : AgreesWithOpenings known (facts_with_openings entries key) command
  pub accepted : IsAcceptedWith known command change
  pub lacks : (¬ AreNumbered change) ⊎ StopsWriting (writes_of known.facts key command change) tables before new

-- the device refuses a command of the books that what is kept is of only where the disk failed, or the database has no room
abbrev pub RefusedByDeviceWith : (List Entry → Type 0) → Key → Command → State → State → Type 0
RefusedByDeviceWith Kept key command old new =
    (entries : List Entry) (stands : Stands old entries) → Kept entries → DiskFailed old new ⊎ HasNoRoomFor key command entries stands.tables old.now.trees new

-- why applying a command fails: where the device refuses it, its commit is in doubt, a damaged text stands under its key, or
-- lots that it looks at have no opening numbers
pub record FailsFor (kept : Option Known) (key : Key) (command : Command) (old new : State)
    (result : Result Verdict StoreFault) : Type 0 where
  pub device : HasCleanDisk new → result ≡ Err Device → RefusedByDeviceWith (IsOf kept) key command old new
  pub in_doubt : HasCleanDisk new → result ≡ Err InDoubt → DiskFailed old new
  pub damage : MeetsDamage key old new result
  pub unpaired : MeetsUnpaired kept command old new result
