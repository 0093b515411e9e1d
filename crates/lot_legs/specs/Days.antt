-- The days and the texts of entries, as the rows of the table `entry` say them.
use Rattle.std.specs.Prelude.{◌≡◌, ◌≢◌, ◌⊎◌, ℕ, ℤ, List, [], ◌∷◌, ◌++◌, take, All, Option, None, Some, option_map, Result, Err, IfOk, OnErr, OnOk}
use Rattle.std.specs.List.{AllByRecursion}
use Rattle.sqlite.specs.State.{HasCleanDisk, State, Survives}
use Rattle.sqlite_rules.specs.Lists.{Has as HasRow}
use Rattle.lot_base.specs.Day.{named_day}
use Rattle.lot_page.specs.Cursor.{IsBehind, Place, Stays}
use Rattle.lot_print.specs.Canonical.{IsCanonical}
use Rattle.lot_rows.specs.Entry.{IsEntryRow, entry_cells}
use Rattle.lot_rows.specs.Tables.{Has, Tables}
use Rattle.lot_rows.specs.declared.entry.EntryRow.{EntryRow}
use Rattle.lot_table.specs.Statement.{DiskFailed}
use Rattle.lot_table.specs.declared.fault.Fault.{Fault}
use Rattle.lot_table.specs.declared.fault.Fault.TheVariants.{Damaged, Device}
use Rattle.lot_walk.specs.Step.{StaysOrGoesBack}
use Rattle.lot_legs.specs.declared.days.EntryDay.{EntryDay}
use Rattle.lot_legs.specs.declared.days.EntryDays.{EntryDays}

-- ---- the day of a text

-- the day that the first ten bytes of a text name, if they name one
abbrev pub day_in : List ℕ → Option ℤ
day_in text = named_day (take 10 text)

-- among the rows is that of the entry, and its text begins with the day
pub record HasDay (rows : List EntryRow) (entry : ℕ) (day : ℤ) : Type 0 where
  pub row : EntryRow
  pub among : HasRow rows row
  pub number : row.number ≡ entry
  pub text : day_in row.body ≡ Some day

-- among the rows is that of the entry, and it has this text
pub record HasText (rows : List EntryRow) (entry : ℕ) (text : List ℕ) : Type 0 where
  pub row : EntryRow
  pub among : HasRow rows row
  pub number : row.number ≡ entry
  pub body : row.body ≡ text

-- ---- the entry that was looked up last

abbrev pub known_day : ℕ → ℤ → List ℕ → EntryDay
known_day entry day text = record { entry = entry; day = day; text = text }

-- it is that entry, on that day
abbrev pub IsKnown : Option EntryDay → ℕ → ℤ → Type 0
IsKnown last entry day = (text : List ℕ) × (last ≡ Some (known_day entry day text))

-- its text
abbrev pub last_text : Option EntryDay → Option (List ℕ)
last_text last = option_map (λ (day : EntryDay). day.text) last

-- it is that entry
abbrev pub IsAt : Option EntryDay → ℕ → Type 0
IsAt None entry = ⊥
IsAt (Some last) entry = last.entry ≡ entry

-- it is the last of the rows that were read, and none is known before the first
abbrev pub IsLast : List EntryRow → Option EntryDay → Type 0
IsLast passed None = passed ≡ []
IsLast passed (Some last) =
    (before : List EntryRow) × (row : EntryRow) × (passed ≡ before ++ row ∷ []) × (row.number ≡ last.entry) × (day_in row.body ≡ Some last.day)
    × (row.body ≡ last.text)

-- the days are behind these rows
pub record AreBehind (days : EntryDays) (rows passed : List EntryRow) : Type 0 where
  pub read : IsBehind entry_cells passed rows days.cursor
  pub last : IsLast passed days.last

-- ---- looking up

-- the rows that were read have no other of that number behind the first ones
abbrev pub HasPassed : ℕ → List EntryRow → List EntryRow → Place → Type 0
HasPassed entry passed rows cursor =
    (more : List EntryRow) × IsBehind entry_cells (passed ++ more) rows cursor × AllByRecursion (λ (row : EntryRow). row.number ≢ entry) more

-- rows of other numbers were read, and nothing else
pub record Passes (entry : ℕ) (before after : EntryDays) (old new : State) : Type 0 where
  pub passes : HasCleanDisk new → (tables : Tables) → Has old tables → (passed : List EntryRow) → IsBehind entry_cells passed tables.entry before.cursor
      → HasPassed entry passed tables.entry after.cursor
  pub same : HasCleanDisk new → Stays old new
  pub survives : Survives old new (λ _. ⊥)

-- the entry is found, and it is the one that was looked up last
pub record Found (entry : ℕ) (day : ℤ) (after : EntryDays) (rows passed : List EntryRow) : Type 0 where
  pub more : List EntryRow
  pub behind : AreBehind after rows (passed ++ more)
  pub last : IsKnown after.last entry day

-- the row of the entry is among those that are left, each of which has the canonical text of a command
pub record IsLeft (entry : ℕ) (left : List EntryRow) : Type 0 where
  pub row : EntryRow
  pub among : HasRow left row
  pub number : row.number ≡ entry
  pub canonical : AllByRecursion (λ (row : EntryRow). IsCanonical row.body) left

-- what reading the rows up to the entry comes to
pub record LooksUp (entry : ℕ) (before after : EntryDays) (old new : State) (result : Result ℤ Fault) : Type 0 where
  pub found : HasCleanDisk new → IfOk result (λ day. (tables : Tables) → Has old tables → (passed : List EntryRow)
      → IsBehind entry_cells passed tables.entry before.cursor → Found entry day after tables.entry passed)
  pub same : HasCleanDisk new → OnOk result (Stays old new)
  pub damaged : HasCleanDisk new → result ≡ Err Damaged → old.step_limit ≡ None → (tables : Tables) → Has old tables → All IsEntryRow tables.entry
      → (passed left : List EntryRow) → IsBehind entry_cells passed tables.entry before.cursor → passed ++ left ≡ tables.entry → ¬ IsLeft entry left
  pub failed : HasCleanDisk new → result ≡ Err Device → DiskFailed old new
  pub left : HasCleanDisk new → OnErr result (StaysOrGoesBack old new)
  pub crash : Survives old new (λ _. ⊥)

-- the same, where the entry may be the one that was looked up last
pub record FindsDay (entry : ℕ) (before after : EntryDays) (old new : State) (result : Result ℤ Fault) : Type 0 where
  pub found : HasCleanDisk new → IfOk result (λ day. (tables : Tables) → Has old tables → (passed : List EntryRow)
      → AreBehind before tables.entry passed → Found entry day after tables.entry passed)
  pub same : HasCleanDisk new → OnOk result (Stays old new)
  pub damaged : HasCleanDisk new → result ≡ Err Damaged → old.step_limit ≡ None → (tables : Tables) → Has old tables → All IsEntryRow tables.entry
      → (passed left : List EntryRow) → AreBehind before tables.entry passed → passed ++ left ≡ tables.entry
      → ¬ (IsAt before.last entry ⊎ IsLeft entry left)
  pub failed : HasCleanDisk new → result ≡ Err Device → DiskFailed old new
  pub left : HasCleanDisk new → OnErr result (StaysOrGoesBack old new)
  pub crash : Survives old new (λ _. ⊥)
