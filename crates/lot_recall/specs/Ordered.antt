-- The place of a walk over the legs of a register that the book has in the order of days.
use Rattle.std.specs.Prelude.{◌≡◌, Bool, true, List, [], ◌∷◌, ◌++◌, filter, map, Option, None, Some}
use Rattle.std.specs.List.Sorted.{IsSorted}
use Rattle.std.specs.Ordering.{is_lt}
use Rattle.lot_book.specs.Facts.{Entry}
use Rattle.lot_noted.specs.Book.{Asked, NeverFall, days_of, is_asked, noted_legs}
use Rattle.lot_noted.specs.Keys.{key_cmp, key_of}
use Rattle.lot_noted.specs.declared.key.LegKey.{LegKey}
use Rattle.lot_register.specs.declared.leg.NotedLeg.{NotedLeg}
use Rattle.lot_rows.specs.Tables.{Tables}
use Rattle.lot_recall.specs.Scope.{owned}
use Rattle.lot_recall.specs.Noted.{AreNotedRows, IsBehindNoted, IsBehindNotedRows}
use Rattle.lot_recall.specs.declared.ordered.OrderedPlace.{OrderedPlace}

-- these are the legs of a book that are asked for, in the order in which it has them
abbrev pub AreOrdered : Asked → List Entry → List NotedLeg → Type 0
AreOrdered asked entries given = given ≡ filter (is_asked asked) (noted_legs entries)

-- the keys of legs, each behind the one before
abbrev pub AreUp : List NotedLeg → Type 0
AreUp given = IsSorted key_cmp (map key_of given)

-- these are those of all rows of the tables that are asked for, and they stand in the order of their keys
pub record AreOrderedRows (asked : Asked) (tables : Tables) (given : List NotedLeg) : Type 0 where
  pub all : List NotedLeg
  pub rows : AreNotedRows tt tables all
  pub chosen : given ≡ filter (is_asked asked) all
  pub up : AreUp given

-- ---- the place

-- a key is behind the last one
abbrev pub is_above : Option LegKey → LegKey → Bool
is_above None key = true
is_above (Some last) key = is_lt (key_cmp last key)

-- it is that of the last leg
abbrev pub IsOfLast : Option LegKey → List NotedLeg → Type 0
IsOfLast None given = given ≡ []
IsOfLast (Some last) given = (front : List NotedLeg) × (leg : NotedLeg) × (given ≡ front ++ leg ∷ []) × (last ≡ key_of leg)

-- of the legs that were read, these were asked for
pub record IsBehindOrderedRows (place : OrderedPlace) (tables : Tables) (asked : Asked) (given : List NotedLeg) : Type 0 where
  pub scope : owned place.scope ≡ asked
  pub passed : List NotedLeg
  pub rows : IsBehindNotedRows place.noted tables tt passed
  pub chosen : given ≡ filter (is_asked asked) passed
  pub up : AreUp given
  pub last : IsOfLast place.last given

pub record IsBehindOrdered (place : OrderedPlace) (tables : Tables) (asked : Asked) (entries : List Entry) (given : List NotedLeg) : Type 0 where
  pub rows : IsBehindOrderedRows place tables asked given
  pub legs : IsBehindNoted place.noted tables tt entries rows.passed
  pub never_fall : NeverFall (days_of entries)
