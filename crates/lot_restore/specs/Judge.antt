-- One command of a dump, judged in the open transaction that makes the book again.
use Rattle.std.specs.Prelude.{◌≡◌, ◌⊎◌, ℕ, suc, IfOk, IsTrue, List, [], ◌∷◌, length, None, OnOk, Result, Err, ⊤}
use Rattle.sqlite.specs.State.{HasCleanDisk, KeepsCommit, State, Survives}
use Rattle.sqlite.specs.Tree.{Trees}
use Rattle.lot_command.specs.declared.command.Command.{Command}
use Rattle.lot_command.specs.declared.key.Key.{Key}
use Rattle.lot_book.specs.Change.{IsAcceptedUnder}
use Rattle.lot_book.specs.Edition.{Edition, First, Second}
use Rattle.lot_book.specs.Facts.{Entry}
use Rattle.lot_book.specs.Judged.{JudgesBy}
use Rattle.lot_book.specs.Openings.{AgreesWithOpenings, FactsWithOpenings, facts_with_openings, ties_for}
use Rattle.lot_book.specs.declared.change.Change.{Change}
use Rattle.lot_book.specs.declared.verdict.Verdict.{Verdict}
use Rattle.lot_book.specs.declared.verdict.Verdict.TheVariants.{Accepted, Refused, Repeated}
use Rattle.lot_load.specs.Kept.{IsOf}
use Rattle.lot_rows.specs.Tables.{Has, Tables}
use Rattle.lot_stored.specs.Rows.{migration_row}
use Rattle.lot_stored.specs.StandFor.{Stands}
use Rattle.lot_table.specs.Statement.{DiskFailed}
use Rattle.lot_table.specs.declared.fault.Fault.{Fault}
use Rattle.lot_table.specs.declared.fault.Fault.TheVariants.{Damaged, Device}
use Rattle.lot_write.specs.Call.{Stops}
use Rattle.lot_write.specs.Write.{AreFit, placed_at, written_all}
use Rattle.lot_write.specs.Writes.{AreNumbered, writes_of}
use Rattle.lot_write.specs.declared.write.Write.{Write}
use Rattle.lot_restore.specs.Restored.{Restores, edition_at, place_after, place_by}
use Rattle.lot_parts.specs.declared.dumped.Dumped.{Dumped}
use Rattle.lot_restore.specs.declared.restorer.Restorer.{Restorer}

-- ---- the place of migration of the tables

-- tables with that place of migration
abbrev pub IsPlacedAt : ℕ → Tables → Type 0
IsPlacedAt place tables = tables.migration ≡ migration_row place ∷ []

-- The tables stand for a book with that place of migration, and what is kept is of it.
pub record StandsAt (Kept : List Entry → Type 0) (s : State) (entries : List Entry) (place : ℕ) : Type 0 where
  pub stands : Stands s entries
  pub placed : IsPlacedAt place stands.tables
  pub kept : Kept entries

-- Edition 1 judges only behind entries that are all of edition 1: the place of migration is their number.
abbrev pub MayJudge : Edition → List Entry → ℕ → Type 0
MayJudge First entries place = place ≡ length entries
MayJudge Second entries place = ⊤

-- The place of migration is put that is one behind this one, in the open transaction. No damage is found in tables without a
-- limit on steps, and the device fails only where the disk failed. The last commit stands, whatever happens.
pub record PutsPlace {A : Type 0} (before : ℕ) (old new : State) (result : Result A Fault) : Type 0 where
  pub inside : HasCleanDisk new → OnOk result (IsTrue new.in_transaction)
  pub turns : HasCleanDisk new → OnOk result ((tables : Tables) → IsPlacedAt before tables → Has old tables
      → Has new (placed_at (suc before) tables))
  pub damaged : HasCleanDisk new → result ≡ Err Damaged → old.step_limit ≡ None
      → (tables : Tables) → ¬ Has old tables
  pub device : HasCleanDisk new → result ≡ Err Device
      → (tables : Tables) → IsPlacedAt before tables → Has old tables → DiskFailed old new
  pub kept : HasCleanDisk new → KeepsCommit old new
  pub crash : Survives old new (λ _. ⊥)

-- ---- the entry of an accepted command

-- the place that the tables have where that many entries are in the book, as far as the edition changes it
abbrev pub IsPlacedFor : Edition → ℕ → Tables → Type 0
IsPlacedFor First entries tables = IsPlacedAt entries tables
IsPlacedFor Second entries tables = ⊤

-- the writes of an entry behind so many others, and behind one of edition 1 the place of migration
abbrev pub entered : Edition → ℕ → List Write → Tables → Tables
entered First entries writes tables = placed_at (suc entries) (written_all writes tables)
entered Second entries writes tables = written_all writes tables

-- The tables become that in the open transaction. Without a limit on steps no damage is found in tables that take the writes,
-- and the device fails only where the disk failed or the database has no room for one of them. The last commit stands,
-- whatever happens.
pub record Enters {A : Type 0} (edition : Edition) (entries : ℕ) (writes : List Write) (old new : State)
    (result : Result A Fault) : Type 0 where
  pub inside : HasCleanDisk new → OnOk result (IsTrue new.in_transaction)
  pub turns : HasCleanDisk new → OnOk result ((tables : Tables) → IsPlacedFor edition entries tables → Has old tables
      → Has new (entered edition entries writes tables))
  pub damaged : HasCleanDisk new → result ≡ Err Damaged → old.step_limit ≡ None
      → (tables : Tables) → AreFit writes tables → IsPlacedFor edition entries tables → ¬ Has old tables
  pub device : HasCleanDisk new → result ≡ Err Device
      → (tables : Tables) → AreFit writes tables → IsPlacedFor edition entries tables → Has old tables
      → DiskFailed old new ⊎ Stops writes tables old.now.trees new
  pub kept : HasCleanDisk new → KeepsCommit old new
  pub crash : Survives old new (λ _. ⊥)

-- ---- a command

-- a repeated command and a refused one change nothing
abbrev pub ChangesBy : Verdict → State → State → Type 0
ChangesBy Accepted old new = ⊤
ChangesBy Repeated old new = new.now ≡ old.now
ChangesBy (Refused refusal) old new = new.now ≡ old.now

-- The database has no room for what a command writes that the edition accepts: a number of it doesn't fit its column, or a row
-- its table. The command is accepted on facts that agree with the book's.
pub record HasNoRoomBy (edition : Edition) (key : Key) (command : Command) (entries : List Entry) (tables : Tables)
    (before : Trees) (new : State) : Type 0 where
  pub known : FactsWithOpenings
  pub change : Change
  pub agrees : AgreesWithOpenings known (facts_with_openings entries key) command
  pub accepted : IsAcceptedUnder (ties_for edition known) known.facts command change
  pub lacks : (¬ AreNumbered change) ⊎ Stops (writes_of known.facts key command change) tables before new

-- A command is judged by an edition on the books that what is kept is of, by what the transaction has made of the tables. Where
-- it is accepted, what it writes is made there, too, with the place of migration behind it. The last commit stands, whatever
-- happens.
pub record JudgesNextBy (edition : Edition) (Kept KeptThen : List Entry → Type 0) (key : Key) (command : Command)
    (old new : State) (result : Result Verdict Fault) : Type 0 where
  -- the verdict is that of a step of the edition, and the book after the step is there then
  pub judged : HasCleanDisk new → IfOk result (λ verdict. (entries : List Entry) (place : ℕ)
      → StandsAt Kept old entries place → MayJudge edition entries place
      → (after : List Entry) × JudgesBy edition entries key command verdict after
      × StandsAt KeptThen new after (place_by edition verdict place))
  pub inside : HasCleanDisk new → OnOk result (IsTrue new.in_transaction)
  pub changes : HasCleanDisk new → IfOk result (λ verdict. ChangesBy verdict old new)
  pub rest : HasCleanDisk new → KeepsCommit old new
  -- damage is found only where no such book is there
  pub damaged : HasCleanDisk new → result ≡ Err Damaged → (entries : List Entry) (place : ℕ)
      → StandsAt Kept old entries place → ¬ MayJudge edition entries place
  -- the device refuses it only where the disk failed, or the database has no room
  pub device : HasCleanDisk new → result ≡ Err Device → (entries : List Entry) (place : ℕ)
      → (at : StandsAt Kept old entries place) → MayJudge edition entries place
      → DiskFailed old new ⊎ HasNoRoomBy edition key command entries at.stands.tables old.now.trees new
  pub crash : Survives old new (λ _. ⊥)

-- A command under its number is judged by the edition of that number.
abbrev pub RestoresNext : Restorer → Restorer → ℕ → Key → Command → State → State → Result Verdict Fault → Type 0
RestoresNext before after number key command old new result =
    JudgesNextBy (edition_at before.place number) (IsOf before.kept) (IsOf after.kept) key command old new result

-- ---- commands so far

-- Commands of a dump with that place of migration are restored: the tables stand for the book that they come to, with its own
-- place, and what is kept is of it.
pub record AreRestored (place : ℕ) (done : List Dumped) (verdicts : List Verdict) (Kept : List Entry → Type 0) (s : State)
    : Type 0 where
  pub book : List Entry
  pub restores : Restores place [] done verdicts book
  pub stands : StandsAt Kept s book (place_after place done verdicts 0)
