-- Legs, and what they leave in an account: a holding is a sum over all legs ever booked (after Beancount's How Inventories
-- Work).
use Rattle.std.specs.Prelude.{ℕ, suc, Bool, true, false, nat_lt, if◌then◌else◌, List, [], ◌∷◌, map, filter, sum_by, Option, Some, ℤ, ◌+ℤ◌, unsigned_abs}
use Rattle.std.specs.declared.cmp.Ordering.{Ordering}
use Rattle.std.specs.FinMap as finite
use Rattle.std.specs.Option.{option_cmp}
use Rattle.std.specs.Ordering.{is_eq, ordering_then}
use Rattle.lot_num.specs.Amount.{units_limit}
use Rattle.lot_num.specs.Sum.{sum_of}
use Rattle.lot_base.specs.Text.{same_text, text_cmp}
use Rattle.lot_cost.specs.LotKey.{lot_cmp}
use Rattle.lot_cost.specs.declared.lot_key.LotKey.{LotKey}
use Rattle.lot_inv.specs.Inventory.{Held, added, units_at}
use Rattle.lot_book.specs.declared.leg.Position.{Position}
use Rattle.lot_book.specs.declared.leg.Leg.{Leg}

-- the order of positions: by the bytes of account and commodity, the plain one first, then the lots in their order
abbrev pub position_cmp : Position → Position → Ordering
position_cmp p q = ordering_then (text_cmp p.account q.account)
    (ordering_then (text_cmp p.commodity q.commodity) (option_cmp lot_cmp p.lot q.lot))

-- whether two positions have one account, one commodity and one lot, or are both plain
abbrev pub same_position : Position → Position → Bool
same_position p q = is_eq (position_cmp p q)

-- ---- what legs leave

-- what legs put into a position: the sum of the units of all of them there
abbrev pub sum_at : List Leg → Position → ℤ
sum_at legs position = sum_of (map (λ (leg : Leg). leg.units) (filter (λ (leg : Leg). same_position position leg.position) legs))

-- the inventory of an account with a leg, which changes one position of it where it is a leg of the account
abbrev pub with_leg : List ℕ → Held → Leg → Held
with_leg account held leg =
    if same_text account leg.position.account then added held (leg.position.commodity, leg.position.lot) leg.units else held

-- the inventory of an account with further legs
abbrev pub with_legs : List ℕ → Held → List Leg → Held
with_legs account held [] = held
with_legs account held (leg ∷ legs) = with_legs account (with_leg account held leg) legs

-- the inventory that legs leave in an account
abbrev pub inventory_of : List Leg → List ℕ → Held
inventory_of legs account = with_legs account finite.empty legs

-- whether, as legs of one account are booked on its inventory one after another, some sum leaves the range of units
abbrev pub leave_range : Held → List Leg → Bool
leave_range held [] = false
leave_range held (leg ∷ legs) =
    if nat_lt (unsigned_abs (units_at held (leg.position.commodity, leg.position.lot) +ℤ leg.units)) units_limit
    then leave_range (added held (leg.position.commodity, leg.position.lot) leg.units) legs else true

-- how many units legs move, sign aside
abbrev pub units_moved : List Leg → ℕ
units_moved legs = sum_by (λ (leg : Leg). unsigned_abs leg.units) legs

-- ---- making legs

abbrev pub leg_at : ℕ → ℕ → ℕ → List ℕ → List ℕ → Option LotKey → ℤ → Leg
leg_at entry posting place account commodity lot units = record {
  entry = entry;
  posting = posting;
  place = place;
  position = record { account = account; commodity = commodity; lot = lot };
  units = units;
}

-- the legs at lots, numbered on from that place
abbrev pub legs_at_lots : ℕ → ℕ → List ℕ → List ℕ → ℕ → List (LotKey × ℤ) → List Leg
legs_at_lots entry posting account commodity place [] = []
legs_at_lots entry posting account commodity place (lot ∷ lots) =
    leg_at entry posting place account commodity (Some lot.0) lot.1 ∷ legs_at_lots entry posting account commodity (suc place) lots
