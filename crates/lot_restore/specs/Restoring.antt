-- What comes of a dump that is restored.
use Rattle.std.specs.Prelude.{◌≡◌, ◌≢◌, ◌⊎◌, ℕ, List, [], ◌∷◌, ◌++◌, IsTrue, None, Option, Result, Ok, Err, ⊤}
use Rattle.std.specs.Io.KnownBytes.{Appends, prepend_known}
use Rattle.sqlite.specs.State.{HasCleanDisk, State}
use Rattle.sqlite.specs.Tree.{Trees}
use Rattle.sqlite.specs.declared.error.Error.{Error}
use Rattle.sqlite.specs.declared.error.Error.TheVariants.{SqliteFailure}
use Rattle.sqlite.specs.declared.error.ErrorCode.TheVariants as code
use Rattle.sqlite_catalog.specs.Listing.{IsSound}
use Rattle.lot_book.specs.Facts.{Entry}
use Rattle.lot_book.specs.declared.verdict.Verdict.{Verdict}
use Rattle.lot_load.specs.Kept.{IsOf}
use Rattle.lot_parts.specs.Commands.{FaultAbove, FaultNext, IsReadTo, IsReadWhole}
use Rattle.lot_parts.specs.Dump.{Dump, Front, IsUnchanged}
use Rattle.lot_parts.specs.Reading.{Reading}
use Rattle.lot_parts.specs.Sum.{SaysOtherwise}
use Rattle.lot_parts.specs.declared.commands.CommandFault.{CommandFault}
use Rattle.lot_parts.specs.declared.dumped.Dumped.{Dumped}
use Rattle.lot_parts.specs.declared.compare.SumFault.{SumFault}
use Rattle.lot_parts.specs.declared.step.Sum.{Sum}
use Rattle.lot_io.specs.Writes.{HasFailed, WriteCalls}
use Rattle.lot_store.specs.Step.{LeavesTables}
use Rattle.lot_store.specs.declared.fault.CreateFault.TheVariants as create
use Rattle.lot_stored.specs.StandFor.{Left}
use Rattle.lot_table.specs.Shape.{schema_of}
use Rattle.lot_table.specs.Statement.{DiskFailed}
use Rattle.lot_without.specs.declared.without.Without.{Without}
use Rattle.lot_restore.specs.Judge.{AreRestored, StandsAt}
use Rattle.lot_restore.specs.LeftOut.{kept_of, unmet_of}
use Rattle.lot_restore.specs.Lines.{unmet_lines, verdict_lines}
use Rattle.lot_restore.specs.Restored.{Restores, place_after}
use Rattle.lot_restore.specs.SoFar.{HasNoRoomBehind, SoFar, refused_of}
use Rattle.lot_restore.specs.declared.fault.RestoreFault.{RestoreFault}
use Rattle.lot_restore.specs.declared.fault.RestoreFault.TheVariants.{Book, Sum as OfSum, Text, Write}
use Rattle.lot_restore.specs.declared.restoration.Refused.{Refused}
use Rattle.lot_restore.specs.declared.restoration.Refused.TheVariants as refused
use Rattle.lot_restore.specs.declared.restoration.Restoration.{Restoration}
use Rattle.lot_restore.specs.declared.restoring.Restored.{Restored}
use Rattle.lot_restore.specs.declared.restoring.Restored.TheVariants.{InPart, NotMade, Whole}
use Rattle.lot_restore.specs.declared.restoring.Restoring.{Restoring}
use Rattle.lot_without.specs.declared.terms.Strictness.{Strictness}
use Rattle.lot_without.specs.declared.terms.Strictness.TheVariants.{Unchanged}
use Rattle.lot_without.specs.declared.terms.Tolerance.{Tolerance}
use Rattle.lot_without.specs.declared.terms.Tolerance.TheVariants.{AllAccepted, KeepGoing}

-- ---- how a dump is restored

-- what leaves entries out, whether the dump has to be what it says, and whether a book is made where commands are refused
pub record Terms : Type 0 where
  pub without : List Without
  pub strictness : Strictness
  pub tolerance : Tolerance

abbrev pub terms_of : Restoring → Terms
terms_of asked = record { without = asked.without.now; strictness = asked.strictness; tolerance = asked.tolerance }

-- ---- what is to come of a dump

-- By what left out no entry, and whether one was refused: the book is made of all, or where that is asked for of the accepted
-- ones, or not at all.
abbrev pub outcome_of : Tolerance → List Without → Refused → Restored
outcome_of tolerance (it ∷ unmet) refused = NotMade
outcome_of tolerance [] refused.None = Whole
outcome_of KeepGoing [] refused.Some = InPart
outcome_of AllAccepted [] refused.Some = NotMade

-- A dump was read to its end, and was what it says, unless it may have been edited. Those of its commands that aren't left out came
-- to these verdicts.
pub record JudgedDump (asked : Terms) (input : Option (List ℕ)) : Type 0 where
  pub dump : Dump
  pub commands : List Dumped
  pub sum : Sum
  pub read : IsReadWhole input dump commands sum
  pub unchanged : asked.strictness ≡ Unchanged → IsUnchanged dump
  pub verdicts : List Verdict

module _ (asked : Terms) {input : Option (List ℕ)} (it : JudgedDump asked input) where
  -- the commands that are judged
  abbrev pub judged_of : List Dumped
  judged_of = kept_of asked.without it.commands

  abbrev pub how_of : Restored
  how_of = outcome_of asked.tolerance (unmet_of asked.without it.commands) (refused_of it.verdicts)

  abbrev pub said_of : List ℕ
  said_of = verdict_lines judged_of it.verdicts ++ unmet_lines (unmet_of asked.without it.commands)

  -- they come to that book
  abbrev pub IsBookOf : List Entry → Type 0
  IsBookOf book = Restores it.dump.head.place [] judged_of it.verdicts book

  abbrev pub place_of : ℕ
  place_of = place_after it.dump.head.place judged_of it.verdicts 0

-- ---- in the transaction

-- a database without tables, and sound
abbrev pub IsFresh : State → Type 0
IsFresh s = (s.now.schema ≡ schema_of []) × IsSound (schema_of []) s.now.trees

-- the tables stand for the book of the dump, and what there is to say of it is written
abbrev pub JudgesWhole : Terms → Option (List ℕ) → Option (List ℕ) → Option (List ℕ) → State → Restored → Type 0
JudgesWhole asked input before written s how =
    (it : JudgedDump asked input) × (how ≡ how_of asked it) × Appends before written (said_of asked it)
    × (HasCleanDisk s → AreRestored it.dump.head.place (judged_of asked it) it.verdicts (IsOf None) s)

-- where reading and judging have come to
pub record Point : Type 1 where
  -- what is known of what the reader has left
  pub known : Option (List ℕ)
  pub reading : Reading
  pub written : Option (List ℕ)
  pub made : Restoration
  pub state : State

-- All that was left of a dump was read and judged: where some of its commands were before, all are then.
abbrev pub IsBehindAll : Sum → Point → Point → Type 0
IsBehindAll sum old new =
    (place : ℕ) (input start : Option (List ℕ)) (front : Front) (done : List Dumped)
    → IsReadTo input old.known old.reading front done → SoFar place start old.written done old.made old.state
    → (dump : Dump) × (commands : List Dumped) × IsReadWhole input dump commands sum × (dump.head ≡ front.head)
    × SoFar place start new.written commands new.made new.state

-- ---- on the database

-- what is left of the database: the book in its last commit, or all as it was
abbrev pub LeavesAs : Restored → List Entry → ℕ → State → State → Type 0
LeavesAs Whole book place old new = StandsAt (IsOf None) new book place × (new.now ≡ new.committed)
LeavesAs InPart book place old new = StandsAt (IsOf None) new book place × (new.now ≡ new.committed)
LeavesAs NotMade book place old new = LeavesTables old new

-- a made book is in an open database
abbrev pub IsOpenWith : Restored → State → Type 0
IsOpenWith Whole new = IsTrue new.is_open
IsOpenWith InPart new = IsTrue new.is_open
IsOpenWith NotMade new = ⊤

-- A dump is restored: it came to that, what there is to say of it is written, and its book is there, unless nothing is made.
abbrev pub RestoresDump : Terms → Option (List ℕ) → Option (List ℕ) → Option (List ℕ) → State → State → Restored → Type 0
RestoresDump asked input before written old new how =
    (it : JudgedDump asked input) × (how ≡ how_of asked it) × Appends before written (said_of asked it)
    × (HasCleanDisk new → IsOpenWith how new)
    × (HasCleanDisk new → IsTrue new.is_open → (book : List Entry) × IsBookOf asked it book
    × LeavesAs how book (place_of asked it) old new)

-- ---- a crash

-- the book of the dump is left, if it is made
abbrev pub LeavesBook : Terms → Option (List ℕ) → Trees → Type 0
LeavesBook asked input trees =
    (it : JudgedDump asked input) × (how_of asked it ≢ NotMade) × (book : List Entry) × IsBookOf asked it book × Left trees book

-- what a crash may leave anew: the book, where it is committed, or nobody knows, or memory refused the commit
abbrev pub MayMake : Terms → Option (List ℕ) → Result Restored RestoreFault → Trees → Type 0
MayMake asked input (Ok Whole) trees = LeavesBook asked input trees
MayMake asked input (Ok InPart) trees = LeavesBook asked input trees
MayMake asked input (Ok NotMade) trees = ⊥
MayMake asked input (Err (Book create.InDoubt)) trees = LeavesBook asked input trees
MayMake asked input (Err (Book create.Memory)) trees = LeavesBook asked input trees
MayMake asked input (Err (Book create.NotABook)) trees = ⊥
MayMake asked input (Err (Book create.Device)) trees = ⊥
MayMake asked input (Err (Text fault)) trees = ⊥
MayMake asked input (Err (OfSum fault)) trees = ⊥
MayMake asked input (Err Write) trees = ⊥

-- what a commit comes to
abbrev pub restored_outcome : {A : Type 0} → Restored → Result A Error → Result Restored RestoreFault
restored_outcome made (Ok done) = Ok made
restored_outcome made (Err (SqliteFailure code.OutOfMemory)) = Err (Book create.Memory)
restored_outcome made (Err _) = Err (Book create.InDoubt)

-- ---- faults

-- why the text is no dump of commands, or wasn't read: above its first heading, or behind a front of it
abbrev pub TextFails : Option (List ℕ) → CommandFault → Type 0
TextFails input fault =
    FaultAbove input fault
    ⊎ ((front : Front) × (commands : List Dumped) × (now : Option (List ℕ)) × (reading : Reading)
    × IsReadTo input now reading front commands × FaultNext (prepend_known reading.ahead now) reading fault)

-- the dump isn't what it says: it was read whole, and should not have been edited
abbrev pub SumFails : Terms → Option (List ℕ) → SumFault → Type 0
SumFails asked input fault =
    (asked.strictness ≡ Unchanged) × (dump : Dump) × (commands : List Dumped) × (sum : Sum) × IsReadWhole input dump commands sum
    × SaysOtherwise dump sum fault

-- the database has no room for what a command writes, behind those that were restored
abbrev pub LacksRoom : State → Type 0
LacksRoom new =
    (place : ℕ) × (done : List Dumped) × (next : Dumped) × (before : Trees) × HasNoRoomBehind place done next before new

-- Why nothing is made, of a dump that was read from some point on, in the open transaction.
abbrev pub FailsAt : Option (List ℕ) → State → State → Option WriteCalls → RestoreFault → Type 0
FailsAt input old new calls (Book create.NotABook) = ¬ HasCleanDisk new
FailsAt input old new calls (Book create.Device) = HasCleanDisk new → DiskFailed old new ⊎ LacksRoom new
FailsAt input old new calls (Book create.InDoubt) = ⊥
FailsAt input old new calls (Book create.Memory) = Unit {0}
FailsAt input old new calls (Text fault) = TextFails input fault
FailsAt input old new calls (OfSum fault) = ⊥
FailsAt input old new calls Write = HasFailed calls

-- the same of what was left of a dump, from some point on
abbrev pub FailsBehind : Point → Point → Option WriteCalls → RestoreFault → Type 0
FailsBehind old new calls fault =
    (place : ℕ) (input start : Option (List ℕ)) (front : Front) (done : List Dumped)
    → IsReadTo input old.known old.reading front done → SoFar place start old.written done old.made old.state
    → FailsAt input old.state new.state calls fault

-- Why nothing is made in the transaction.
abbrev pub FailsInside : Terms → Option (List ℕ) → State → State → Option WriteCalls → RestoreFault → Type 0
FailsInside asked input old new calls (OfSum fault) = SumFails asked input fault
FailsInside asked input old new calls (Book create.InDoubt) = HasCleanDisk new → DiskFailed old new
FailsInside asked input old new calls (Book create.NotABook) = HasCleanDisk new → ¬ IsTrue old.is_open
FailsInside asked input old new calls (Book create.Device) = HasCleanDisk new → DiskFailed old new ⊎ LacksRoom new
FailsInside asked input old new calls (Book create.Memory) = Unit {0}
FailsInside asked input old new calls (Text fault) = TextFails input fault
FailsInside asked input old new calls Write = HasFailed calls

-- Why nothing is made. The database has tables; the disk failed, or there is no room; the commit failed; the text is no dump of
-- commands, or isn't what it says; or the writer failed.
abbrev pub Fails : Terms → Option (List ℕ) → State → State → Option WriteCalls → RestoreFault → Type 0
Fails asked input old new calls (Book create.NotABook) = HasCleanDisk new → IsTrue old.is_open → old.now.schema ≢ schema_of []
Fails asked input old new calls (Book create.Device) = HasCleanDisk new → DiskFailed old new ⊎ LacksRoom new
Fails asked input old new calls (Book create.InDoubt) = HasCleanDisk new → DiskFailed old new
Fails asked input old new calls (Book create.Memory) = Unit {0}
Fails asked input old new calls (Text fault) = TextFails input fault
Fails asked input old new calls (OfSum fault) = SumFails asked input fault
Fails asked input old new calls Write = HasFailed calls
