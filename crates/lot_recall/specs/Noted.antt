-- The place of a walk over all legs of a book, each with the narration of its entry.
use Rattle.std.specs.Prelude.{◌≡◌, ◌≢◌, ℕ, List, [], ◌∷◌, ◌++◌, map, Option, None, Some, ⊤}
use Rattle.std.specs.List.{AllByRecursion}
use Rattle.sqlite_rules.specs.Lists.{Has as HasRow}
use Rattle.lot_command.specs.Canonical.{canonical}
use Rattle.lot_command.specs.Sayable.{IsSayable}
use Rattle.lot_command.specs.declared.command.Command.{Command}
use Rattle.lot_book.specs.Facts.{Entry}
use Rattle.lot_legs.specs.Days.{HasText}
use Rattle.lot_legs.specs.Legs.{AreAllLegRows, dated_legs}
use Rattle.lot_legs.specs.Place.{IsBehindLegRows, IsBehindLegs}
use Rattle.lot_legs.specs.declared.leg.DatedLeg.{DatedLeg}
use Rattle.lot_legs.specs.declared.place.LegsPlace.{LegsPlace}
use Rattle.lot_noted.specs.Book.{Narrates, bare, noted_legs}
use Rattle.lot_register.specs.declared.leg.NotedLeg.{NotedLeg}
use Rattle.lot_rows.specs.Entry.{entry_cells}
use Rattle.lot_rows.specs.Tables.{Tables}
use Rattle.lot_rows.specs.declared.entry.EntryRow.{EntryRow}
use Rattle.lot_recall.specs.declared.noted.EntryNote.{EntryNote}
use Rattle.lot_recall.specs.declared.noted.NotedPlace.{NotedPlace}

-- ---- the legs of a book

-- without their narrations these are the legs of the book with their days, all of them in their order, and each has its narration
pub record AreNoted (asked : Unit {0}) (entries : List Entry) (given : List NotedLeg) : Type 0 where
  pub legs : map bare given ≡ dated_legs entries
  pub among : AllByRecursion (HasRow (noted_legs entries)) given

-- ---- the rows of the tables, whatever they stand for

-- the first line of the text of the entry of a leg is that of a command with its narration
pub record HasNarration (tables : Tables) (leg : NotedLeg) : Type 0 where
  pub entry : EntryRow
  pub listed : HasRow (map entry_cells tables.entry) (entry_cells entry)
  pub number : entry.number ≡ leg.entry
  pub narrates : Narrates entry.body leg.narration

-- without their narrations these are all rows of the table `leg` with their days, and each has its narration
pub record AreNotedRows (asked : Unit {0}) (tables : Tables) (given : List NotedLeg) : Type 0 where
  pub legs : AreAllLegRows asked tables (map bare given)
  pub notes : AllByRecursion (HasNarration tables) given

-- ---- the narration that is kept

-- the first line of the text of an entry is that of a command with the narration
pub record IsNarrated (tables : Tables) (entry : ℕ) (narration : Option (List ℕ)) : Type 0 where
  pub text : List ℕ
  pub body : HasText tables.entry entry text
  pub narrates : Narrates text narration

-- the one that is kept is that of its entry
abbrev pub IsKept : Tables → Option EntryNote → Type 0
IsKept tables None = ⊤
IsKept tables (Some note) = IsNarrated tables note.entry note.narration

-- the leg that was read last is one of the entry
pub record IsBehindLegOf (place : LegsPlace) (tables : Tables) (entry : ℕ) : Type 0 where
  pub asked : Unit {0}
  pub given : List DatedLeg
  pub leg : DatedLeg
  pub behind : IsBehindLegRows place tables asked (given ++ leg ∷ [])
  pub is_of : leg.entry ≡ entry

-- the narration of its entry is told, and the one that is kept is that of its own entry
abbrev pub Tells : ℕ → NotedPlace → NotedPlace → Option (List ℕ) → Type 0
Tells entry before after narration =
    (tables : Tables) → IsBehindLegOf before.legs tables entry → IsKept tables before.last → IsNarrated tables entry narration × IsKept tables after.last

-- the text of its entry is that of no command
abbrev pub SaysNothing : ℕ → LegsPlace → Type 0
SaysNothing entry place =
    (tables : Tables) → IsBehindLegOf place tables entry
    → (text : List ℕ) × HasText tables.entry entry text × ((command : Command) → IsSayable command → text ≢ canonical command)

-- ---- the place

pub record IsBehindNotedRows (place : NotedPlace) (tables : Tables) (asked : Unit {0}) (given : List NotedLeg) : Type 0 where
  pub legs : IsBehindLegRows place.legs tables asked (map bare given)
  pub notes : AllByRecursion (HasNarration tables) given
  pub kept : IsKept tables place.last

pub record IsBehindNoted (place : NotedPlace) (tables : Tables) (asked : Unit {0}) (entries : List Entry) (given : List NotedLeg) : Type 0 where
  pub rows : IsBehindNotedRows place tables asked given
  pub legs : IsBehindLegs place.legs tables asked entries (map bare given)
  pub among : AllByRecursion (HasRow (noted_legs entries)) given
