-- Rows of lots and rows of opening numbers that belong together (docs/FORMATS.md, Tables).
use Rattle.std.specs.Prelude.{◌≡◌, ◌⊎◌, [], List, map, None, OnOk, Option, Result, Some}
use Rattle.std.specs.List.{AllByRecursion}
use Rattle.sqlite.specs.State.{HasCleanDisk, State}
use Rattle.sqlite_rules.specs.Lists.{Has as IsAmong}
use Rattle.lot_command.specs.declared.command.Command.{Command}
use Rattle.lot_book.specs.Touched.{pairs_in}
use Rattle.lot_book.specs.declared.change.Pair.{Pair}
use Rattle.lot_load.specs.declared.kept.Kept.{Kept}
use Rattle.lot_table.specs.declared.fault.Fault.{Fault}
use Rattle.lot_table.specs.Rows.{with_key}
use Rattle.lot_rows.specs.Lot.{lot_cells}
use Rattle.lot_rows.specs.LotKey.{lot_key}
use Rattle.lot_rows.specs.Opening.{opening_cells}
use Rattle.lot_rows.specs.Tables.{Has, Tables}
use Rattle.lot_rows.specs.declared.lot.LotRow.{LotRow}
use Rattle.lot_rows.specs.declared.opening.OpeningRow.{OpeningRow}
use Rattle.lot_stored.specs.Rows.{pair_key}

-- they are of the same lots, in the same order
abbrev pub ArePaired : List LotRow → List OpeningRow → Type 0
ArePaired lots openings = map (λ (row : LotRow). row.lot) lots ≡ map (λ (row : OpeningRow). row.lot) openings

-- the tables have the same lots of an account and a commodity, by their columns
abbrev pub HavePaired : Pair → Tables → Type 0
HavePaired pair tables =
    map (λ (row : LotRow). lot_key pair.account pair.commodity row.lot)
    (with_key lot_cells 2 (pair_key pair.account pair.commodity) tables.lot)
    ≡ map (λ (row : OpeningRow). lot_key pair.account pair.commodity row.lot)
    (with_key opening_cells 2 (pair_key pair.account pair.commodity) tables.opening)

-- so they have of each of these
abbrev pub HaveAllPaired : List Pair → Tables → Type 0
HaveAllPaired pairs tables = AllByRecursion (λ (pair : Pair). HavePaired pair tables) pairs

-- and of each that a command posts to
abbrev pub HavePairedFor : Command → Tables → Type 0
HavePairedFor command tables = HaveAllPaired (pairs_in command) tables

-- where a call succeeds, the tables have the same lots of each of these
abbrev pub FindsAllPaired : {R : Type 0} → List Pair → State → State → Result R Fault → Type 0
FindsAllPaired pairs old new result =
    HasCleanDisk new → OnOk result ((tables : Tables) → Has old tables → HaveAllPaired pairs tables)

-- ---- pairs of which all is known

-- those of what is kept; where nothing is kept, none
abbrev pub whole_pairs : Option Kept → List Pair
whole_pairs None = []
whole_pairs (Some kept) = kept.whole.pairs.keys

-- of each of these all was known before, or the tables have the same lots
abbrev pub AreWholeOrPaired : Option Kept → Tables → List Pair → Type 0
AreWholeOrPaired kept tables pairs =
    AllByRecursion (λ (pair : Pair). IsAmong (whole_pairs kept) pair ⊎ HavePaired pair tables) pairs

-- Where a call succeeds, this is so of each pair that a command posts to. So it fails where nothing was kept and the tables
-- don't have the same lots of some such pair.
abbrev pub FindsPaired : {R E : Type 0} → Option Kept → Command → State → State → Result R E → Type 0
FindsPaired kept command old new result =
    HasCleanDisk new → OnOk result ((tables : Tables) → Has old tables → AreWholeOrPaired kept tables (pairs_in command))

-- it is so of each pair of which all is known then
abbrev pub KeepsPaired : Option Kept → Option Kept → State → State → Type 0
KeepsPaired before after old new =
    HasCleanDisk new → (tables : Tables) → Has old tables → AreWholeOrPaired before tables (whole_pairs after)
