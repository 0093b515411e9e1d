-- An index of lots: the same lots in the order in which they are lent.
use Rattle.std.specs.Prelude.{◌≡◌, ℕ, Bool, false, if◌then◌else◌, List, map, Option, None, Some}
use Rattle.std.specs.declared.cmp.Ordering.{Ordering}
use Rattle.std.specs.BTreeMap.{is_at}
use Rattle.std.specs.Map.{lookup}
use Rattle.std.specs.Ordering.{is_eq, ordering_then}
use Rattle.lot_cost.specs.declared.lot_key.LotKey.{LotKey}
use Rattle.lot_cost.specs.LotKey.{lot_cmp}
use Rattle.lot_inv.specs.declared.foremost.Foremost.{Foremost}
use Rattle.lot_inv.specs.declared.lots.OpenLot.{OpenLot}
use Rattle.lot_inv.specs.Foremost.{Rank, rank, rank_cmp}
use Rattle.lot_inv.specs.Lots.{lot_at}

-- a rank and a key
abbrev pub Place : Type 0
Place = Rank × LotKey

-- where the lot stands that has a key and an opening number
abbrev pub place : Foremost → LotKey → ℕ → Place
place foremost key opening = (rank foremost key opening, key)

-- the order of places: by rank, then by key
abbrev pub place_cmp : Place → Place → Ordering
place_cmp p q = ordering_then (rank_cmp p.0 q.0) (lot_cmp p.1 q.1)

-- whether a place has the rank of a lot that is kept under its key
abbrev pub has_rank : Foremost → Place → OpenLot → Bool
has_rank foremost at lot = is_eq (rank_cmp (rank foremost at.1 lot.opening) at.0)

-- what of that which is kept under the key of a place stands there
abbrev pub in_place : Foremost → Place → Option OpenLot → Option OpenLot
in_place foremost at None = None
in_place foremost at (Some lot) = if has_rank foremost at lot then Some lot else None

-- an index has each of some lots at its place, and nothing else
abbrev pub IsIndex : Foremost → List (Place × OpenLot) → List (LotKey × OpenLot) → Type 0
IsIndex foremost index lots = (at : Place) → lookup (is_at (place_cmp at)) index ≡ in_place foremost at (lot_at lots at.1)

-- the lots of an index, in its order
abbrev pub in_order : List (Place × OpenLot) → List (LotKey × OpenLot)
in_order index = map (λ (entry : Place × OpenLot). (entry.0.1, entry.1)) index

-- whether a place is that of a lot that is kept under a key
abbrev pub is_own : Foremost → LotKey → Option OpenLot → Place → Bool
is_own foremost key None at = false
is_own foremost key (Some lot) at = is_eq (place_cmp (place foremost key lot.opening) at)

-- what stands at a place, once what is kept under a key is set at its own
abbrev pub with_own : Foremost → LotKey → Option OpenLot → Place → Option OpenLot → Option OpenLot
with_own foremost key after at before = if is_own foremost key after at then after else before

-- of some lots one was set: what was kept under its key, and what is kept there now
pub record IsSet (key : LotKey) (before after : Option OpenLot) (old new : List (LotKey × OpenLot)) : Type 0 where
  pub was : lot_at old key ≡ before
  pub sets : (other : LotKey) → lot_at new other ≡ if is_eq (lot_cmp key other) then after else lot_at old other
