-- What is told behind an answer: how entries are counted, on which connection a report is written, and the status behind it.
use Rattle.std.proofs.Common.{◌≡◌, ◌≤◌, ◌∙◌, ◌⊎◌, inl, inr, ℕ, Bool, true, false, IsTrue, not, List, All, None, Option, Result, Ok, Err, length, ltb-false, refl, ap, subst, sym}
use Rattle.std.proofs.lemmas.Bool.{true≢false}
use Rattle.std.specs.Option.{unwrap_or}
use Rattle.std.specs.Prelude.{if◌then◌else◌, nat_eq, nat_lt}
use Rattle.sqlite.specs.Held.{Held, state}
use Rattle.sqlite.specs.State.{HasCleanDisk, State}
use Rattle.sqlite.specs.Store.{Ghosts}
use Rattle.lot_args.specs.declared.action.Action.{Action}
use Rattle.lot_args.specs.declared.action.Action.TheVariants.{Check, Init, Migrate, Post, PostRow, Import, ImportBy, Report, Reconcile, Restore, Verify}
use Rattle.lot_book.specs.Facts.{Entry}
use Rattle.lot_input.specs.Input.{Reading}
use Rattle.lot_io.specs.Writes.{WriteCalls, WritesMade}
use Rattle.lot_rows.specs.Entry.{IsEntryRow, greatest_number}
use Rattle.lot_rows.specs.Tables.{Tables, layout}
use Rattle.lot_stored.proofs.KeptLemmas.{greatest_counts}
use Rattle.lot_stored.specs.StandFor.{Stands}
use Rattle.lot_store.specs.Apply.{store_fault_of}
use Rattle.lot_stream.specs.Status.{IsStatus}
use Rattle.lot_table.specs.Book.{always}
use Rattle.lot_table.specs.Call.{Answers}
use Rattle.lot_table.specs.declared.fault.Fault.{Fault}
use Rattle.lot_table.specs.declared.fault.Fault.TheVariants.{Damaged, Device, Memory}
use Rattle.lot_walk.proofs.PlaceLemmas.{unchanged_stays}
use Rattle.lot_walk.proofs.StepLemmas.{undone_by, unchanged_left}
use Rattle.lot_cli.specs.Check.{status_behind}
use Rattle.lot_cli.specs.Preview.{Counts, Outcome, ServesTo, unlimited}
use Rattle.lot_cli.specs.Reports.{Reports, Writing}
use Rattle.lot_cli.specs.Says.{Told}
use Rattle.lot_cli.specs.Serve.{EndsWith}

-- ---- counting entries

abbrev Greatest : State → State → Result (Option ℕ) Fault → Type 0
Greatest = Answers layout (λ number (b : Tables). number ≡ greatest_number b.entry) always (λ (b : Tables). All IsEntryRow b.entry)

module _ (old new : State) where
  -- the last number is how many there are
  pub counted : (last : Option ℕ) (count : ℕ) → count ≡ unwrap_or last 0 → Greatest old new (Ok last) → Counts old new (Ok count)
  counted last count is a = record {
    of_book = λ clean entries stands.
        is ∙ ap (λ (number : Option ℕ). unwrap_or number 0) (a.says clean stands.tables stands.has ∙ ap greatest_number stands.stand.entry)
        ∙ greatest_counts entries;
    of_tables = λ clean tables has. is ∙ ap (λ (number : Option ℕ). unwrap_or number 0) (a.says clean tables has);
    same = λ clean. unchanged_stays old new (a.same clean);
    damaged = λ clean at. cc;
    failed = λ clean at. cc;
    sure = λ at. cc;
    reopened = λ at. cc;
    left = λ clean. unchanged_left old new (a.same clean);
    crash = a.crash;
  }

  pub uncounted : old.step_limit ≡ None → (fault : Fault) → Greatest old new (Err fault) → Counts old new (Err (store_fault_of fault))
  uncounted limit Device a = record {
    of_book = λ clean. tt;
    of_tables = λ clean. tt;
    same = λ clean. tt;
    damaged = λ clean at. cc;
    failed = λ clean at. a.device clean refl;
    sure = λ at. cc;
    reopened = λ at. cc;
    left = λ clean. undone_by old new (a.undone clean);
    crash = a.crash;
  }
  uncounted limit Damaged a = record {
    of_book = λ clean. tt;
    of_tables = λ clean. tt;
    same = λ clean. tt;
    damaged = λ clean at entries stands. a.damaged clean refl limit stands.tables stands.has stands.stand.good.entry;
    failed = λ clean at. cc;
    sure = λ at. cc;
    reopened = λ at. cc;
    left = λ clean. undone_by old new (a.undone clean);
    crash = a.crash;
  }
  uncounted limit Memory a = record {
    of_book = λ clean. tt;
    of_tables = λ clean. tt;
    same = λ clean. tt;
    damaged = λ clean at. cc;
    failed = λ clean at. cc;
    sure = λ at. cc;
    reopened = λ at. cc;
    left = λ clean. undone_by old new (a.undone clean);
    crash = a.crash;
  }

-- ---- a connection that is made ready

-- it is in a transaction where its statements aren't committed one by one
pub inside_if : (alone inside : Bool) → alone ≡ not inside → alone ≡ false → IsTrue inside
inside_if alone true is none = refl
inside_if alone false is none = absurd (true≢false (sym is ∙ none))

pub outside_if : (alone inside : Bool) → alone ≡ not inside → alone ≡ true → inside ≡ false
outside_if alone false is all = refl
outside_if alone true is all = absurd (true≢false (sym all ∙ is))

module _ {S : Type 0} (g : Ghosts S) where
  -- without a limit it is in a transaction where it was
  pub outside_then : (conn ready : Held S) → ready ≡ record conn { step_limit = None } → conn.in_transaction ≡ false
      → ready.in_transaction ≡ false
  outside_then conn ready is outside = ap (λ (h : Held S). h.in_transaction) is ∙ outside

  pub unlimited_then : (conn ready : Held S) → ready ≡ record conn { step_limit = None } → ready.step_limit ≡ None
  unlimited_then conn ready is = ap (λ (h : Held S). h.step_limit) is

  pub never_inside : (conn left : Held S) → left ≡ conn → IsTrue left.in_transaction → conn.in_transaction ≡ false → ⊥
  never_inside conn left is inside outside = true≢false (sym inside ∙ ap (λ (h : Held S). h.in_transaction) is ∙ outside)

  -- behind a call that handed a connection on, it is outside a transaction as it was before
  pub outside_still : (conn left : Held S) → left ≡ conn → (HasCleanDisk (state g conn) → conn.in_transaction ≡ false)
      → HasCleanDisk (state g left) → left.in_transaction ≡ false
  outside_still conn left is outside =
      subst (λ (h : Held S). HasCleanDisk (state g h) → h.in_transaction ≡ false) (sym is) outside

  module _ (conn ready : Held S) (is : ready ≡ record conn { step_limit = None }) where
    pub told_on : (writing : Writing) (new : State) (before written : Option (List ℕ)) (calls : WritesMade) (shown : Told)
        → Reports writing (state g ready) new before written calls shown → Reports writing (unlimited (state g conn)) new before written calls shown
    told_on writing new before written calls shown reports =
        subst (λ (h : Held S). Reports writing (state g h) new before written calls shown) is reports

    pub served_on : (action : Action) (input : Reading) (before : Option (List ℕ)) (calls : Option WriteCalls) (to : Outcome (Held S))
        → ServesTo (state g) action input (state g ready) before calls to
        → ServesTo (state g) action input (unlimited (state g conn)) before calls to
    served_on action input before calls to serves =
        subst (λ (h : Held S). ServesTo (state g) action input (state g h) before calls to) is serves

-- ---- the status

pub met_none : (status : ℕ) → nat_lt 1 status ≡ false → status ≤ 1
met_none status none = ltb-false 1 status none

-- behind a report it is that of the answer, or that of the report
pub either_status : (posted shown status : ℕ) → status ≡ status_behind posted shown → IsStatus shown → (status ≡ posted) ⊎ IsStatus status
either_status posted shown status is shows = go (nat_eq shown 0) refl
  where
    go : (b : Bool) → nat_eq shown 0 ≡ b → (status ≡ posted) ⊎ IsStatus status
    go true e = inl (is ∙ ap (λ (none : Bool). if none then posted else shown) e)
    go false e = inr (subst IsStatus (sym (is ∙ ap (λ (none : Bool). if none then posted else shown) e)) shows)

-- any action may end with such a status
pub ends_so : (action : Action) (status : ℕ) → IsStatus status → EndsWith action status
ends_so (Check rounding) status is = is
ends_so (Init book) status is = is
ends_so (Migrate book) status is = is
ends_so (Post post) status is = is
ends_so (PostRow book batch reference rounding) status is = inl is
ends_so (Import asked) status is = is
ends_so (ImportBy asked) status is = is
ends_so (Report book report) status is = is
ends_so (Reconcile asked) status is = is
ends_so (Restore asked) status is = is
ends_so (Verify book saying) status is = is

pub ends_told : (action : Action) (posted status : ℕ) → EndsWith action posted → (status ≡ posted) ⊎ IsStatus status → EndsWith action status
ends_told action posted status ends (inl same) = subst (EndsWith action) (sym same) ends
ends_told action posted status ends (inr is) = ends_so action status is
