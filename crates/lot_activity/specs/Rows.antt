-- The rows of a table of activity: for each period, account and commodity the sums over its legs
-- (docs/FORMATS.md, Activity).
use Rattle.std.specs.Prelude.{◌≡◌, ℕ, suc, ℤ, pos, negsuc, ◌+ℤ◌, ◌*ℤ◌, Bool, ◌&&◌, if◌then◌else◌, is_none, List, map, filter, None, Some}
use Rattle.std.specs.List.{list_any}
use Rattle.std.specs.List.Sorted.{IsStrictlySortedBy}
use Rattle.std.specs.Map.{keys_of, lookup}
use Rattle.std.specs.Ordering.{is_eq, ordering_then}
use Rattle.std.specs.declared.cmp.Ordering.{Ordering}
use Rattle.lot_num.specs.Amount.{one}
use Rattle.lot_num.specs.Sum.{sum_of}
use Rattle.lot_base.specs.Text.{text_cmp}
use Rattle.lot_book.specs.Change.{pair_cmp}
use Rattle.lot_book.specs.declared.change.Pair.{Pair}
use Rattle.lot_period.specs.Period.{period_text}
use Rattle.lot_period.specs.declared.period.PeriodLength.{PeriodLength}
use Rattle.lot_report.specs.Report.{is_wide}
use Rattle.lot_legs.specs.declared.leg.DatedLeg.{DatedLeg}
use Rattle.lot_activity.specs.Scope.{Asked, has}
use Rattle.lot_activity.specs.declared.flow.Flow.{Flow}

-- ---- what is counted

-- a leg of plain units that is asked for
abbrev pub is_counted : Asked → DatedLeg → Bool
is_counted asked leg = is_none leg.lot && has asked leg

abbrev pub counted_legs : Asked → List DatedLeg → List DatedLeg
counted_legs asked legs = filter (is_counted asked) legs

-- ---- sums

-- units above zero came in; those below zero went out, and their sign is turned. Both are weights.
abbrev pub in_of : ℤ → ℤ
in_of (pos n) = pos n *ℤ pos one
in_of (negsuc n) = pos 0

abbrev pub out_of : ℤ → ℤ
out_of (pos n) = pos 0
out_of (negsuc n) = pos (suc n) *ℤ pos one

-- what legs come to
abbrev pub flow_of : List DatedLeg → Flow
flow_of legs = record {
  incoming = sum_of (map (λ (leg : DatedLeg). in_of leg.units) legs);
  outgoing = sum_of (map (λ (leg : DatedLeg). out_of leg.units) legs);
}

-- sums with the units of one more leg
abbrev pub with_units : Flow → ℤ → Flow
with_units flow units = record { incoming = flow.incoming +ℤ in_of units; outgoing = flow.outgoing +ℤ out_of units }

-- ---- rows

-- what tells a row from others: the text of its period, and its account and commodity
abbrev pub RowKey : Type 0
RowKey = List ℕ × Pair

abbrev pub pair_of : DatedLeg → Pair
pair_of leg = record { account = leg.account; commodity = leg.commodity }

abbrev pub row_of : PeriodLength → DatedLeg → RowKey
row_of length leg = (period_text length leg.day, pair_of leg)

-- the order of rows: by the bytes of their periods, their accounts and their commodities
abbrev pub row_cmp : RowKey → RowKey → Ordering
row_cmp a b = ordering_then (text_cmp a.0 b.0) (pair_cmp a.1 b.1)

module _ (length : PeriodLength) where
  abbrev pub is_in_row : RowKey → DatedLeg → Bool
  is_in_row row leg = is_eq (row_cmp row (row_of length leg))

  abbrev pub legs_in_row : RowKey → List DatedLeg → List DatedLeg
  legs_in_row row legs = filter (is_in_row row) legs

  -- the rows of legs: one for each row that a leg is in, with the sums over its legs
  pub record AreRows (legs : List DatedLeg) (rows : List (RowKey × Flow)) : Type 0 where
    pub in_order : IsStrictlySortedBy row_cmp (keys_of rows)
    pub each : (row : RowKey) → lookup (λ other. is_eq (row_cmp row other)) rows
        ≡ (if list_any (is_in_row row) legs then Some (flow_of (legs_in_row row legs)) else None)

-- ---- sums stay in range

-- whether the sums to which units add stay in the range of weights
abbrev pub has_room : Flow → ℤ → Bool
has_room flow units = is_wide (flow.incoming +ℤ in_of units) && is_wide (flow.outgoing +ℤ out_of units)

-- whether those of its row do so with a leg, behind the legs before it
abbrev pub leg_fits : PeriodLength → List DatedLeg → DatedLeg → Bool
leg_fits length before leg = has_room (flow_of (legs_in_row length (row_of length leg) before)) leg.units
