-- The place of a walk over the legs of a book at keys.
use Rattle.std.specs.Prelude.{◌≡◌, ◌≤◌, ℕ, List, length, map, take}
use Rattle.std.specs.List.{AllByRecursion}
use Rattle.sqlite_rules.specs.Lists.{Has as HasRow}
use Rattle.lot_book.specs.Facts.{Entry}
use Rattle.lot_noted.specs.Book.{Narrates, noted_legs}
use Rattle.lot_noted.specs.Keys.{key_of}
use Rattle.lot_noted.specs.declared.key.LegKey.{LegKey}
use Rattle.lot_register.specs.declared.leg.NotedLeg.{NotedLeg}
use Rattle.lot_rows.specs.Entry.{IsEntryRow, entry_cells}
use Rattle.lot_rows.specs.Leg.{IsLegRow, leg_cells}
use Rattle.lot_rows.specs.Tables.{Tables}
use Rattle.lot_rows.specs.declared.entry.EntryRow.{EntryRow}
use Rattle.lot_rows.specs.declared.leg.LegRow.{LegRow}
use Rattle.lot_recall.specs.Recall.{recalled}
use Rattle.lot_recall.specs.declared.place.RecallPlace.{RecallPlace}

-- a leg is told as it is, and each is good
abbrev pub shown_noted : NotedLeg → NotedLeg
shown_noted leg = leg

abbrev pub IsAnyNoted : NotedLeg → Type 0
IsAnyNoted leg = Unit {0}

-- ---- the legs of a book

-- these are the legs of the book at these keys, in their order
pub record AreAt (keys : List LegKey) (entries : List Entry) (given : List NotedLeg) : Type 0 where
  pub keyed : map key_of given ≡ keys
  pub among : AllByRecursion (HasRow (noted_legs entries)) given

-- the book has a leg at each key
abbrev pub HaveLegs : List Entry → List LegKey → Type 0
HaveLegs entries keys = AllByRecursion (HasRow (map key_of (noted_legs entries))) keys

-- ---- the rows of the tables, whatever they stand for

-- a row of the table `leg`, told by its columns, says the leg, and the first line of the text of its entry is that of a command with
-- that narration
pub record HasRows (tables : Tables) (leg : NotedLeg) : Type 0 where
  pub row : LegRow
  pub among : HasRow (map leg_cells tables.leg) (leg_cells row)
  pub says : leg ≡ recalled row leg.day leg.narration
  pub entry : EntryRow
  pub listed : HasRow (map entry_cells tables.entry) (entry_cells entry)
  pub number : entry.number ≡ leg.entry
  pub narrates : Narrates entry.body leg.narration

pub record AreRowsAt (keys : List LegKey) (tables : Tables) (given : List NotedLeg) : Type 0 where
  pub keyed : map key_of given ≡ keys
  pub rows : AllByRecursion (HasRows tables) given

-- ---- the place

-- rows that are kept are those of the table
abbrev pub AreLegsOf : Tables → List LegRow → Type 0
AreLegsOf tables kept = AllByRecursion (λ (row : LegRow). HasRow (map leg_cells tables.leg) (leg_cells row) × IsLegRow row) kept

abbrev pub AreEntriesOf : Tables → List EntryRow → Type 0
AreEntriesOf tables kept = AllByRecursion (λ (row : EntryRow). HasRow (map entry_cells tables.entry) (entry_cells row) × IsEntryRow row) kept

pub record IsBehindRecalledRows (place : RecallPlace) (tables : Tables) (keys : List LegKey) (given : List NotedLeg) : Type 0 where
  pub on : place.keys.items ≡ keys
  pub keyed : map key_of given ≡ take place.at keys
  pub rows : AllByRecursion (HasRows tables) given
  pub legs : AreLegsOf tables place.legs.rows.items
  pub notes : AreEntriesOf tables place.notes.rows.items

pub record IsBehindRecalled (place : RecallPlace) (tables : Tables) (keys : List LegKey) (entries : List Entry) (given : List NotedLeg) : Type 0 where
  pub read : IsBehindRecalledRows place tables keys given
  pub among : AllByRecursion (HasRow (noted_legs entries)) given
  pub have : HaveLegs entries keys
