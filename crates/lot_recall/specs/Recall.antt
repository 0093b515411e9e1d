-- Rows of the tables `leg` and `entry` that are looked up again.
use Rattle.std.specs.Prelude.{◌≡◌, ◌≢◌, ◌⊎◌, ℕ, ℤ, pos, ◌==◌, ◌&&◌, Bool, true, false, All, IfOk, IfErr, List, [], ◌∷◌, filter, find, map, take, Option, None, Some, IsSome, OnErr, OnOk, Result, Err, Vec}
use Rattle.std.specs.List.{AllByRecursion, list_any}
use Rattle.std.specs.declared.alloc.Global.{Global}
use Rattle.sqlite.specs.Order.{Row}
use Rattle.sqlite.specs.State.{HasCleanDisk, State, Survives}
use Rattle.sqlite.specs.declared.types.Value.TheVariants.{Int}
use Rattle.sqlite_rules.specs.Lists.{Has as HasRow}
use Rattle.lot_command.specs.Canonical.{canonical}
use Rattle.lot_command.specs.Sayable.{IsSayable}
use Rattle.lot_command.specs.declared.command.Command.{Command}
use Rattle.lot_noted.specs.Book.{Narrates}
use Rattle.lot_noted.specs.declared.key.LegKey.{LegKey}
use Rattle.lot_page.specs.Cursor.{Stays}
use Rattle.lot_page.specs.Page.{Takes, is_from}
use Rattle.lot_register.specs.declared.leg.NotedLeg.{NotedLeg}
use Rattle.lot_rows.specs.Entry.{IsEntryRow, entry_cells}
use Rattle.lot_rows.specs.Leg.{IsLegRow, leg_cells}
use Rattle.lot_rows.specs.Tables.{Has, Tables, layout}
use Rattle.lot_rows.specs.declared.entry.EntryRow.{EntryRow}
use Rattle.lot_rows.specs.declared.leg.LegRow.{LegRow}
use Rattle.lot_stored.specs.Rows.{posting_key}
use Rattle.lot_table.specs.Call.{Answers}
use Rattle.lot_table.specs.Rows.{with_key}
use Rattle.lot_table.specs.Statement.{DiskFailed}
use Rattle.lot_table.specs.declared.fault.Fault.{Fault}
use Rattle.lot_table.specs.declared.fault.Fault.TheVariants.{Damaged, Device, Memory}
use Rattle.lot_walk.specs.Step.{StaysOrGoesBack}

-- ---- rows that are kept

-- The rows of a table are told by their columns. `those` are the rows that are read where none that is kept is the one that is
-- looked up.
module _ {X : Type 0} (encode : X → Row) (IsGood : X → Type 0) (rows : Tables → List X) (is_at : X → Bool) (those : List X → List Row) where
  -- each row that is kept is one of the table, which a book can have
  abbrev pub AreOf : Tables → List X → Type 0
  AreOf tables kept = AllByRecursion (λ x. HasRow (map encode (rows tables)) (encode x) × IsGood x) kept

  pub record LooksUp (before after : List X) (old new : State) (result : Result (Unit {0}) Fault) : Type 0 where
    pub kept : HasCleanDisk new → (tables : Tables) → Has old tables → AreOf tables before → AreOf tables after
    pub found : HasCleanDisk new
        → OnOk result ((tables : Tables) → Has old tables → (list_any is_at after ≡ true) ⊎ (map encode after ≡ those (rows tables)))
    pub same : HasCleanDisk new → OnOk result (Stays old new)
    pub damaged : HasCleanDisk new → result ≡ Err Damaged → old.step_limit ≡ None → (tables : Tables) → Has old tables → All IsGood (rows tables)
        → AllByRecursion (λ x. is_at x ≡ false) (rows tables)
    pub failed : HasCleanDisk new → result ≡ Err Device → DiskFailed old new
    pub left : HasCleanDisk new → OnErr result (StaysOrGoesBack old new)
    pub crash : Survives old new (λ _. ⊥)

-- ---- rows from a number on

-- the first rows of a table from a number on
abbrev pub first_rows : {X : Type 0} → (X → Row) → ℕ → ℕ → List X → List Row
first_rows encode most number rows = take most (filter (is_from (Int (pos number))) (map encode rows))

abbrev pub TakesFirst : {X : Type 0} → (X → Row) → (Tables → List X) → ℕ → ℕ → State → State → Result (Vec Row Global) Fault → Type 0
TakesFirst encode rows most number = Takes encode rows most (is_from (Int (pos number)))

abbrev pub ReadsFirst : {X : Type 0} → (X → Row) → (X → Type 0) → (Tables → List X) → ℕ → ℕ → State → State → Result (Vec X Global) Fault → Type 0
ReadsFirst encode IsGood rows most number =
    Answers layout (λ found (b : Tables). map encode found.items ≡ first_rows encode most number (rows b)) (λ found. All IsGood found.items)
    (λ (b : Tables). All IsGood (rows b))

-- ---- legs

-- how many are read at a time
abbrev pub few_legs : ℕ
few_legs = 16

abbrev pub TakesLegs : ℕ → State → State → Result (Vec Row Global) Fault → Type 0
TakesLegs = TakesFirst leg_cells (λ (b : Tables). b.leg) few_legs

abbrev pub ReadsLegs : ℕ → State → State → Result (Vec LegRow Global) Fault → Type 0
ReadsLegs = ReadsFirst leg_cells IsLegRow (λ (b : Tables). b.leg) few_legs

abbrev pub is_leg_at : LegKey → LegRow → Bool
is_leg_at key row = (row.entry == key.entry) && ((row.posting == key.posting) && (row.place == key.place))

-- those of a posting
abbrev pub legs_of : LegKey → List LegRow → List Row
legs_of key rows = map leg_cells (with_key leg_cells 2 (posting_key key.entry key.posting) rows)

abbrev pub LooksUpLegs : LegKey → List LegRow → List LegRow → State → State → Result (Unit {0}) Fault → Type 0
LooksUpLegs key = LooksUp leg_cells IsLegRow (λ (b : Tables). b.leg) (is_leg_at key) (legs_of key)

-- the leg of a row, on a day, with a narration
abbrev pub recalled : LegRow → ℤ → Option (List ℕ) → NotedLeg
recalled row day narration = record {
  day = day;
  entry = row.entry;
  posting = row.posting;
  place = row.place;
  account = row.account;
  commodity = row.commodity;
  units = row.units;
  lot = row.lot;
  narration = narration;
}

-- the leg at a key, with a narration, if its row is among these
pub record IsRecalled (key : LegKey) (rows : List LegRow) (narration : Option (List ℕ)) (leg : NotedLeg) : Type 0 where
  pub row : LegRow
  pub found : find (is_leg_at key) rows ≡ Some row
  pub is : leg ≡ recalled row key.day narration

pub record Recalls (key : LegKey) (rows : List LegRow) (narration : Option (List ℕ)) (result : Result NotedLeg Fault) : Type 0 where
  pub gives : IfOk result (IsRecalled key rows narration)
  pub damaged : result ≡ Err Damaged → find (is_leg_at key) rows ≡ None
  pub lacking : result ≡ Err Memory → IsSome (find (is_leg_at key) rows)

-- ---- entries

abbrev pub is_entry_at : ℕ → EntryRow → Bool
is_entry_at number row = row.number == number

-- how many are read at a time
abbrev pub few_entries : ℕ
few_entries = 8

-- the first rows from a number on
abbrev pub entries_from : ℕ → List EntryRow → List Row
entries_from = first_rows entry_cells few_entries

abbrev pub TakesEntries : ℕ → State → State → Result (Vec Row Global) Fault → Type 0
TakesEntries = TakesFirst entry_cells (λ (b : Tables). b.entry) few_entries

abbrev pub ReadsEntries : ℕ → State → State → Result (Vec EntryRow Global) Fault → Type 0
ReadsEntries = ReadsFirst entry_cells IsEntryRow (λ (b : Tables). b.entry) few_entries

abbrev pub LooksUpEntry : ℕ → List EntryRow → List EntryRow → State → State → Result (Unit {0}) Fault → Type 0
LooksUpEntry number = LooksUp entry_cells IsEntryRow (λ (b : Tables). b.entry) (is_entry_at number) (entries_from number)

-- the row of a number is among these, and the first line of its text is that of a command with that narration
pub record IsNoted (number : ℕ) (rows : List EntryRow) (narration : Option (List ℕ)) : Type 0 where
  pub row : EntryRow
  pub found : find (is_entry_at number) rows ≡ Some row
  pub narrates : Narrates row.body narration

-- the narration of the entry of a number, if its row is among these and has the text of a command
pub record Notes (number : ℕ) (rows : List EntryRow) (result : Result (Option (List ℕ)) Fault) : Type 0 where
  pub says : IfOk result (IsNoted number rows)
  pub damaged : result ≡ Err Damaged → (row : EntryRow) → find (is_entry_at number) rows ≡ Some row → (command : Command) → IsSayable command → row.body ≢ canonical command
