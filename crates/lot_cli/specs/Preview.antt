-- What is told of the book that a dry run would leave, behind its answer (docs/RULES.md, The program).
use Rattle.std.specs.Prelude.{◌≡◌, ◌≢◌, ◌⊎◌, ◌≤◌, ◌<◌, ℕ, IfOk, OnOk, List, length, None, Option, Result, Ok, Err}
use Rattle.sqlite.specs.State.{HasCleanDisk, State, Survives}
use Rattle.lot_args.specs.declared.action.Action.{Action}
use Rattle.lot_args.specs.declared.action.Format.TheVariants.{Text}
use Rattle.lot_args.specs.declared.action.Report.TheVariants.{AddedGains, Holdings}
use Rattle.lot_args.specs.declared.request.Preview.{Preview}
use Rattle.lot_args.specs.declared.request.Preview.TheVariants as preview
use Rattle.lot_book.specs.Facts.{Entry}
use Rattle.lot_book_report.specs.declared.fault.ShowFault.TheVariants.{Walk as AtWalk}
use Rattle.lot_input.specs.Input.{Reading}
use Rattle.lot_io.specs.Writes.{WriteCalls, WritesMade}
use Rattle.lot_page.specs.Cursor.{Stays}
use Rattle.lot_rows.specs.Tables.{Has, Tables}
use Rattle.lot_stored.specs.StandFor.{Stands}
use Rattle.lot_store.specs.Extent.{entries_in}
use Rattle.lot_store.specs.declared.fault.AdoptFault.TheVariants as adopt
use Rattle.lot_store.specs.declared.fault.StoreFault.{StoreFault}
use Rattle.lot_store.specs.declared.fault.StoreFault.TheVariants.{Damaged, Device, InDoubt, NeedsReopen}
use Rattle.lot_store.specs.declared.walk.WalkFault.TheVariants.{Failed}
use Rattle.lot_stream.specs.declared.status.Status.TheVariants.{Stopped}
use Rattle.lot_table.specs.Statement.{DiskFailed}
use Rattle.lot_walk.specs.Step.{StaysOrGoesBack}
use Rattle.lot_cli.specs.Check.{status_behind}
use Rattle.lot_cli.specs.Reports.{Reports, Writing, report_line, written_for}
use Rattle.lot_cli.specs.Says.{Halts, Says, Told}
use Rattle.lot_cli.specs.Serve.{Serves}
use Rattle.lot_cli.specs.declared.halt.Halt.TheVariants as halt

-- ---- how many entries there were

-- The entries of a book are counted, or why they can't be: whatever the tables stand for, by the greatest number. That changes
-- nothing.
pub record Counts (old new : State) (counted : Result ℕ StoreFault) : Type 0 where
  pub of_book : HasCleanDisk new → IfOk counted (λ count. (entries : List Entry) → Stands old entries → count ≡ length entries)
  pub of_tables : HasCleanDisk new → IfOk counted (λ count. (tables : Tables) → Has old tables → count ≡ entries_in tables)
  pub same : HasCleanDisk new → OnOk counted (Stays old new)
  -- damage is found only where the tables stand for no book
  pub damaged : HasCleanDisk new → counted ≡ Err Damaged → (entries : List Entry) → ¬ Stands old entries
  pub failed : HasCleanDisk new → counted ≡ Err Device → DiskFailed old new
  -- nothing is committed, no call went before
  pub sure : counted ≢ Err InDoubt
  pub reopened : counted ≢ Err NeedsReopen
  pub left : HasCleanDisk new → StaysOrGoesBack old new
  pub crash : Survives old new (λ _. ⊥)

-- ---- a call so far

-- the connection, what is known of the bytes that were written and of the calls of the writer, and what is told of the end
pub record Outcome (C : Type 0) : Type 0 where
  pub conn : C
  pub written : Option (List ℕ)
  pub calls : Option WriteCalls
  pub told : Told

abbrev pub outcome : {C : Type 0} → C → Option (List ℕ) → Option WriteCalls → Told → Outcome C
outcome conn written calls told = record { conn = conn; written = written; calls = calls; told = told }

-- the calls of the writer between two of them
abbrev pub calls_between : {C : Type 0} → Outcome C → Outcome C → WritesMade
calls_between from to = record { before = from.calls; after = to.calls }

-- a database as it is, whose statements may take any number of steps
abbrev pub unlimited : State → State
unlimited s = record s { step_limit = None }

module _ {C : Type 0} (shows : C → State) where
  -- ---- a report behind an answer

  -- nothing is told behind a fault
  pub record IsSilent (from to : Outcome C) : Type 0 where
    pub fault : 1 < from.told.status
    pub same : to ≡ from

  -- the disk failed before, so that no report can be told: that is reported
  pub record IsCutOff (from to : Outcome C) : Type 0 where
    pub going : from.told.status ≤ 1
    pub unclean : ¬ HasCleanDisk (shows from.conn)
    pub says : Halts (halt.Adopt adopt.Device) from.written to.written (calls_between from to) to.told

  -- a report is told, and the status is that of the answer, unless the report meets a fault
  pub record IsTold (writing : Writing) (from to : Outcome C) : Type 0 where
    pub going : from.told.status ≤ 1
    pub shown : Told
    pub reports : Reports writing (unlimited (shows from.conn)) (shows to.conn) from.written to.written (calls_between from to) shown
    pub status : to.told.status ≡ status_behind from.told.status shown.status
    pub halt : to.told.halt ≡ shown.halt

  abbrev pub TellsReport : Writing → Outcome C → Outcome C → Type 0
  TellsReport writing from to = IsSilent from to ⊎ IsCutOff from to ⊎ IsTold writing from to

  -- ---- gains behind an answer

  -- it is reported why the entries weren't counted
  pub record IsUncounted (fault : StoreFault) (from to : Outcome C) : Type 0 where
    pub going : from.told.status ≤ 1
    pub says : Says (report_line (AtWalk (Failed fault))) Stopped from.written to.written (calls_between from to) to.told.status
    pub goes_on : to.told.halt ≡ None
    pub same : to.conn ≡ from.conn

  -- what the sales gained of the entries behind as many as there were before
  abbrev pub TellsGains : Result ℕ StoreFault → Outcome C → Outcome C → Type 0
  TellsGains (Ok count) from to = TellsReport (written_for (AddedGains count)) from to
  TellsGains (Err fault) from to = IsSilent from to ⊎ IsUncounted fault from to

  -- ---- an action

  module _ (action : Action) (input : Reading) where
    -- it is served on a database, behind what was written before
    abbrev pub ServesTo : State → Option (List ℕ) → Option WriteCalls → Outcome C → Type 0
    ServesTo old before calls to =
        Serves action (record {
          input = input;
          old = old;
          new = shows to.conn;
          before = before;
          written = to.written;
          calls = record { before = calls; after = to.calls };
          told = to.told;
        })

    -- The entries are counted, and the action is served on the database as that left it, with the gains behind. Or the disk failed
    -- as they were counted, and that is reported.
    pub record ServesWithGains (opened : C) (before : Option (List ℕ)) (calls : Option WriteCalls) (to : Outcome C) : Type 0 where
      pub counted : C
      pub count : Result ℕ StoreFault
      pub counts : Counts (shows opened) (shows counted) count
      pub serves :
          ((¬ HasCleanDisk (shows counted))
          × Halts (halt.Adopt adopt.Device) before to.written (record { before = calls; after = to.calls }) to.told)
          ⊎ ((answered : Outcome C) × ServesTo (unlimited (shows counted)) before calls answered × TellsGains count answered to)

    -- The action is served, and behind its answer that is told of the book which is asked for: nothing, the gains of the sales that
    -- it added, what the book holds, or both.
    abbrev pub ServesWithPreview : Preview → C → Option (List ℕ) → Option WriteCalls → Outcome C → Type 0
    ServesWithPreview preview.Nothing opened before calls to = ServesTo (shows opened) before calls to
    ServesWithPreview preview.Gains opened before calls to = ServesWithGains opened before calls to
    ServesWithPreview preview.Holdings opened before calls to =
        (answered : Outcome C) × ServesTo (shows opened) before calls answered × TellsReport (written_for (Holdings None Text)) answered to
    ServesWithPreview preview.GainsAndHoldings opened before calls to =
        (gained : Outcome C) × ServesWithGains opened before calls gained × TellsReport (written_for (Holdings None Text)) gained to
