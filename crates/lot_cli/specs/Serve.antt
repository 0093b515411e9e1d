-- What an action writes, with which status it ends, and what it leaves of the book (docs/RULES.md, The program).
use Rattle.std.specs.Prelude.{◌≡◌, ◌≢◌, ◌⊎◌, ℕ, List, IfSome, None, Some, Option, codes, ⊤}
use Rattle.sqlite.specs.State.{HasCleanDisk, KeepsCommit, State, Survives}
use Rattle.lot_check.specs.Answer.{IsOutcome}
use Rattle.lot_stream.specs.Status.{IsStatus}
use Rattle.lot_stored.specs.StandFor.{Stands}
use Rattle.lot_book.specs.Facts.{Entry}
use Rattle.lot_migrate.specs.First.{StandsFirst}
use Rattle.lot_migrate.specs.Migrate.{IsOfFirst, IsOfSecond, LeavesMigrated, Migrates, NotMigrated}
use Rattle.lot_migrate.specs.declared.fault.MigrateFault.{MigrateFault}
use Rattle.lot_io.specs.Writes.{WritesMade}
use Rattle.lot_report.specs.Printed.{line}
use Rattle.lot_cli.specs.Check.{Checks}
use Rattle.lot_cli.specs.Init.{Makes}
use Rattle.lot_cli.specs.Reports.{Reports, ShowsBook, digest_writing, verified_line, written_for}
use Rattle.lot_cli.specs.Reconcile.{Reconciles}
use Rattle.lot_cli.specs.Restore.{RestoresBook, terms_for}
use Rattle.lot_cli.specs.Runs.{Imports, ImportsBy, IsUntouched, Posts, PostsRow, unfit}
use Rattle.lot_cli.specs.Says.{Halts, Succeeds, Told}
use Rattle.lot_cli.specs.declared.halt.Halt.TheVariants as halt
use Rattle.lot_store.specs.Create.{IsHandedBack, IsTaken}
use Rattle.lot_page.specs.Cursor.{Stays}
use Rattle.lot_rows.specs.Tables.{Has, Tables}
use Rattle.lot_verify.specs.Verify.{NotVerified}
use Rattle.lot_verify.specs.declared.fault.VerifyFault.{VerifyFault}
use Rattle.lot_verify.specs.declared.fault.VerifyFault.TheVariants as verify
use Rattle.lot_args.specs.declared.action.Action.{Action}
use Rattle.lot_args.specs.declared.action.Saying.{Saying}
use Rattle.lot_args.specs.declared.action.Saying.TheVariants.{Digest, Verified}
use Rattle.lot_input.specs.Input.{Reading}
use Rattle.lot_args.specs.declared.action.Action.TheVariants.{Check, Init, Migrate, Post, PostRow, Import, ImportBy, Report, Reconcile, Restore, Verify}
use Rattle.std.specs.Io.KnownBytes.{Appends}

-- ---- taking over a book of edition 1

abbrev pub migrated_line : List ℕ
migrated_line = line (codes "book migrated")

-- A book of edition 1 becomes one of edition 2, in one commit, and one of edition 2 stays as it is. A crash during the call
-- leaves the book of edition 2 or what it could leave before.
pub record IsMigrated (old new : State) : Type 0 where
  pub migrates : HasCleanDisk new → Migrates old new
  pub crash : Survives old new (LeavesMigrated old)

-- It isn't migrated, for what the fault says, and the database is handed back as it was. After a commit that failed a crash
-- may leave the book of edition 2.
pub record IsNotMigrated (old new : State) (fault : MigrateFault) : Type 0 where
  pub refused : HasCleanDisk new → NotMigrated old new fault
  pub of_first : HasCleanDisk new → (entries : List Entry) → StandsFirst old entries → IsOfFirst fault
  pub of_second : HasCleanDisk new → (entries : List Entry) → Stands old entries → IsOfSecond old new fault
  pub handed_back : HasCleanDisk new → IsHandedBack old new
  pub kept : HasCleanDisk new → KeepsCommit old new
  pub crash : Survives old new (LeavesMigrated old)

abbrev pub SaysMigrated : State → State → Option (List ℕ) → Option (List ℕ) → WritesMade → Told
    → Type 0
SaysMigrated old new before written calls told =
    (IsMigrated old new × Succeeds migrated_line before written calls told)
    ⊎ ((fault : MigrateFault) × IsNotMigrated old new fault
    × Halts (halt.Migrate fault) before written calls told)

-- ---- verifying a book

-- The database is marked as a book of this edition, and where it has the tables of a book alone, they stand for one. Nothing is
-- changed.
pub record IsVerified (old new : State) : Type 0 where
  pub stands : HasCleanDisk new → (tables : Tables) → Has old tables → (entries : List Entry) × Stands old entries
  pub taken : HasCleanDisk new → IsTaken old
  pub same : HasCleanDisk new → Stays old new
  pub crash : Survives old new (λ _. ⊥)

-- It isn't verified, for what the fault tells, and stands for no book of this edition, unless memory or the disk failed. The
-- database is handed back as it was.
pub record IsNotVerified (old new : State) (fault : VerifyFault) : Type 0 where
  pub refused : HasCleanDisk new → fault ≢ verify.Device → fault ≢ verify.Memory
      → (entries : List Entry) → ¬ Stands old entries
  pub tells : HasCleanDisk new → NotVerified old new fault
  pub handed_back : HasCleanDisk new → IsHandedBack old new
  pub crash : Survives old new (λ _. ⊥)

-- it was verified, and what is asked for beside that is read of it
pub record WasVerified (old new : State) : Type 0 where
  pub stands : HasCleanDisk new → (tables : Tables) → Has old tables → (entries : List Entry) × Stands old entries
  pub taken : HasCleanDisk new → IsTaken old

-- what is written of a verified book: that it is one, or behind that what the last line of its dump says
abbrev pub SaysOfVerified : Saying → State → State → Option (List ℕ) → Option (List ℕ) → WritesMade → Told → Type 0
SaysOfVerified Verified old new before written calls told =
    IsVerified old new × Succeeds verified_line before written calls told
SaysOfVerified Digest old new before written calls told =
    WasVerified old new × ShowsBook digest_writing old new before written calls told.status × (told.halt ≡ None)

abbrev pub SaysVerified : Saying → State → State → Option (List ℕ) → Option (List ℕ) → WritesMade → Told
    → Type 0
SaysVerified saying old new before written calls told =
    SaysOfVerified saying old new before written calls told
    ⊎ ((fault : VerifyFault) × IsNotVerified old new fault
    × Halts (halt.Verify fault) before written calls told)

-- ---- any action

-- the action asks the reader for nothing
abbrev pub ReadsNothing : Action → Type 0
ReadsNothing (Check rounding) = ⊥
ReadsNothing (Init book) = ⊤
ReadsNothing (Migrate book) = ⊤
ReadsNothing (Post asked) = ⊥
ReadsNothing (PostRow book batch reference rounding) = ⊥
ReadsNothing (Import asked) = ⊥
ReadsNothing (ImportBy asked) = ⊥
ReadsNothing (Report book report) = ⊤
ReadsNothing (Reconcile asked) = ⊥
ReadsNothing (Restore asked) = ⊥
ReadsNothing (Verify book saying) = ⊤

-- the numbers with which an action ends: a post in place of a row may find that its text doesn't fit
abbrev pub EndsWith : Action → ℕ → Type 0
EndsWith (PostRow book batch reference rounding) status = IsStatus status ⊎ (status ≡ unfit)
EndsWith (Check rounding) status = IsStatus status
EndsWith (Init book) status = IsStatus status
EndsWith (Migrate book) status = IsStatus status
EndsWith (Post asked) status = IsStatus status
EndsWith (Import asked) status = IsStatus status
EndsWith (ImportBy asked) status = IsStatus status
EndsWith (Report book report) status = IsStatus status
EndsWith (Reconcile asked) status = IsStatus status
EndsWith (Restore asked) status = IsStatus status
EndsWith (Verify book saying) status = IsStatus status

-- a call: what is known of the reader; the database before and after it; what is known of the bytes that were written before
-- and after it, and of the calls of the writer; and what it tells of its end
pub record Call : Type 1 where
  pub input : Reading
  pub old : State
  pub new : State
  pub before : Option (List ℕ)
  pub written : Option (List ℕ)
  pub calls : WritesMade
  pub told : Told

-- The outcome of an action: what it writes behind what was written before, and its status; whether it ended before its first
-- command, and why; and what the connection stands for after it, and a crash may leave.
abbrev pub Serves : Action → Call → Type 0
Serves (Check None) c =
    IsUntouched c.old c.new × IfSome c.input.bytes (λ input. (text : List ℕ) × Appends c.before c.written text
    × IsOutcome c.input.calls c.calls input text c.told.status) × (c.told.halt ≡ None)
Serves (Check (Some rounding)) c = Checks rounding c.input c.old c.new c.before c.written c.calls c.told
Serves (Init book) c = Makes c.old c.new c.before c.written c.calls c.told
Serves (Migrate book) c = SaysMigrated c.old c.new c.before c.written c.calls c.told
Serves (Post asked) c =
    Posts asked.batch asked.rounding asked.from asked.keeping c.input c.old c.new c.before c.written c.calls c.told
Serves (PostRow book batch reference rounding) c = PostsRow batch reference rounding c.input c.old c.new c.before c.written c.calls c.told
Serves (Import asked) c =
    Imports asked.batch asked.accounts asked.rounding asked.from asked.except.items asked.keeping c.input c.old c.new c.before c.written c.calls c.told
Serves (ImportBy asked) c =
    ImportsBy asked.batch asked.profile asked.rounding asked.except.items asked.keeping c.input c.old c.new c.before c.written c.calls c.told
Serves (Report book report) c = Reports (written_for report) c.old c.new c.before c.written c.calls c.told
Serves (Reconcile asked) c = Reconciles asked c.input c.old c.new c.before c.written c.calls c.told
Serves (Restore asked) c = RestoresBook (terms_for asked) c.input c.old c.new c.before c.written c.calls c.told
Serves (Verify book saying) c = SaysVerified saying c.old c.new c.before c.written c.calls c.told
