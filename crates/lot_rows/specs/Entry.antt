-- The table `entry`, which has two unique keys: the number, and the source and name.
use Rattle.std.specs.Prelude.{◌≡◌, ℕ, pos, Bool, false, List, [], ◌∷◌, filter, reverse, slice_get, Option, option_map, IsUtf8}
use Rattle.std.specs.List.{AllByRecursion}
use Rattle.std.specs.Ordering.{is_eq}
use Rattle.sqlite.specs.Query.{key_cmp}
use Rattle.sqlite_value.specs.Keys.{rising}
use Rattle.lot_rows.specs.declared.entry.NumberRow.{NumberRow}
use Rattle.sqlite.specs.Order.{Row}
use Rattle.sqlite.specs.declared.types.Value.TheVariants.{Int, Text}
use Rattle.lot_base.specs.Name.{IsName, is_label}
use Rattle.lot_table.specs.Cell.{IsOrdinal}
use Rattle.lot_rows.specs.declared.entry.EntryRow.{EntryRow}

abbrev pub entry_cells : EntryRow → Row
entry_cells entry = Int (pos entry.number) ∷ Text entry.source ∷ Text entry.name ∷ Text entry.body ∷ []

pub record IsEntryRow (entry : EntryRow) : Type 0 where
  pub number : IsOrdinal entry.number
  pub source : IsName is_label entry.source
  pub name : IsName is_label entry.name
  pub body : IsUtf8 entry.body

-- ---- the second key

-- the row has this source and name
abbrev pub is_named : List ℕ → List ℕ → Row → Bool
is_named source name row = is_eq (key_cmp 1 (rising 2 []) row (Int (pos 0) ∷ Text source ∷ Text name ∷ []))

-- the rows of this source and name
abbrev pub named : List ℕ → List ℕ → List EntryRow → List EntryRow
named source name = filter (λ entry. is_named source name (entry_cells entry))

-- no row has the source and the name of this one
abbrev pub IsUnnamed : EntryRow → List EntryRow → Type 0
IsUnnamed new = AllByRecursion (λ entry. is_named new.source new.name (entry_cells entry) ≡ false)

-- ---- the greatest number: the rows are in the order of their numbers

abbrev pub greatest_number : List EntryRow → Option ℕ
greatest_number entries = option_map (λ (entry : EntryRow). entry.number) (slice_get (reverse entries) 0)

abbrev pub number_cells : NumberRow → Row
number_cells row = Int (pos row.number) ∷ []

abbrev pub IsNumberRow : NumberRow → Type 0
IsNumberRow row = IsOrdinal row.number
