-- The rows of a table of gains: for each combination of keys and currency the sums over its lots
-- (docs/FORMATS.md, Gains by keys).
use Rattle.std.specs.Prelude.{◌≡◌, ℕ, ◌+◌, ◌^◌, ℤ, pos, ◌+ℤ◌, Bool, true, false, IsTrue, not, ◌&&◌, nat_lt, if◌then◌else◌, List, [], ◌∷◌, ◌++◌, length, map, filter, Option, None, Some, Result, Ok, Err, ⊤}
use Rattle.std.specs.List.{list_any}
use Rattle.std.specs.List.Sorted.{IsStrictlySortedBy}
use Rattle.std.specs.Map.{keys_of, lookup}
use Rattle.std.specs.Ordering.{is_eq, ordering_then}
use Rattle.std.specs.declared.cmp.Ordering.{Ordering}
use Rattle.lot_num.specs.Sum.{sum_of}
use Rattle.lot_base.specs.Text.{text_cmp}
use Rattle.lot_book.specs.declared.gain.Gain.{Gain}
use Rattle.lot_report.specs.Report.{is_wide}
use Rattle.lot_report.specs.declared.fault.ReportFault.{ReportFault}
use Rattle.lot_report.specs.declared.fault.ReportFault.TheVariants.{Range, Write, Memory}
use Rattle.lot_tally.specs.Lots.{CountedLot, RowKey}
use Rattle.lot_tally.specs.declared.sums.RowSums.{RowSums}

-- ---- sums

-- whether a lot has a gain, and a number of it, which is zero without one
abbrev pub has_gain : Option Gain → Bool
has_gain None = false
has_gain (Some gain) = true

abbrev pub of_gain : (Gain → ℤ) → Option Gain → ℤ
of_gain number None = pos 0
of_gain number (Some gain) = number gain

abbrev pub cost_without : Option Gain → ℤ → ℤ
cost_without None cost = cost
cost_without (Some gain) cost = pos 0

-- what lots come to: those with a gain, and beside them those without one
abbrev pub sums_of : List CountedLot → RowSums
sums_of lots = record {
  priced_lots = length (filter (λ (lot : CountedLot). has_gain lot.gain) lots);
  proceeds = sum_of (map (λ (lot : CountedLot). of_gain (λ g. g.proceeds) lot.gain) lots);
  cost = sum_of (map (λ (lot : CountedLot). of_gain (λ g. g.cost) lot.gain) lots);
  gain = sum_of (map (λ (lot : CountedLot). of_gain (λ g. g.gain) lot.gain) lots);
  unpriced_lots = length (filter (λ (lot : CountedLot). not (has_gain lot.gain)) lots);
  unpriced_cost = sum_of (map (λ (lot : CountedLot). cost_without lot.gain lot.cost) lots);
}

-- sums with one more lot
abbrev pub with_lot : RowSums → ℤ → Option Gain → RowSums
with_lot sums cost None = record {
  priced_lots = sums.priced_lots;
  proceeds = sums.proceeds;
  cost = sums.cost;
  gain = sums.gain;
  unpriced_lots = sums.unpriced_lots + 1;
  unpriced_cost = sums.unpriced_cost +ℤ cost;
}
with_lot sums cost (Some gain) = record {
  priced_lots = sums.priced_lots + 1;
  proceeds = sums.proceeds +ℤ gain.proceeds;
  cost = sums.cost +ℤ gain.cost;
  gain = sums.gain +ℤ gain.gain;
  unpriced_lots = sums.unpriced_lots;
  unpriced_cost = sums.unpriced_cost;
}

-- ---- rows

-- the order of rows, by the bytes of their keys, then by those of their currencies
abbrev pub row_cmp : RowKey → RowKey → Ordering
row_cmp a b = ordering_then (text_cmp a.0 b.0) (text_cmp a.1 b.1)

abbrev pub is_in_row : RowKey → CountedLot → Bool
is_in_row row lot = is_eq (row_cmp row lot.row)

abbrev pub lots_in_row : RowKey → List CountedLot → List CountedLot
lots_in_row row lots = filter (is_in_row row) lots

-- the rows of lots: one for each row that a lot is in, with the sums over its lots
pub record AreRows (lots : List CountedLot) (rows : List (RowKey × RowSums)) : Type 0 where
  pub in_order : IsStrictlySortedBy row_cmp (keys_of rows)
  pub each : (row : RowKey) → lookup (λ other. is_eq (row_cmp row other)) rows
      ≡ (if list_any (is_in_row row) lots then Some (sums_of (lots_in_row row lots)) else None)

-- ---- sums stay in range

-- fewer lots than this are counted in a row
abbrev pub most_counted : ℕ
most_counted = 2 ^ 64

-- whether the sums to which a lot adds stay in range
abbrev pub has_room : RowSums → ℤ → Option Gain → Bool
has_room sums cost None = nat_lt (sums.unpriced_lots + 1) most_counted && is_wide (sums.unpriced_cost +ℤ cost)
has_room sums cost (Some gain) =
    nat_lt (sums.priced_lots + 1) most_counted && is_wide (sums.proceeds +ℤ gain.proceeds)
    && is_wide (sums.cost +ℤ gain.cost) && is_wide (sums.gain +ℤ gain.gain)

-- whether they do so in its row, behind the lots before it
abbrev pub lot_fits : List CountedLot → CountedLot → Bool
lot_fits before lot = has_room (sums_of (lots_in_row lot.row before)) lot.cost lot.gain

-- the same of lots one after another
abbrev pub lots_fit : List CountedLot → List CountedLot → Bool
lots_fit before [] = true
lots_fit before (lot ∷ lots) = lot_fits before lot && lots_fit (before ++ lot ∷ []) lots

-- What becomes of sums with something more: it fits, and is added; or it doesn't fit; or there is
-- no memory for it.
abbrev pub Adds : Bool → Type 0 → Result (Unit {0}) ReportFault → Type 0
Adds fits IsAdded (Ok done) = IsTrue fits × IsAdded
Adds fits IsAdded (Err Range) = IsTrue (not fits)
Adds fits IsAdded (Err Write) = ⊥
Adds fits IsAdded (Err Memory) = ⊤

-- The same where the sums are looked at first: memory is lacked only by what fits.
abbrev pub AddsFitting : Bool → Type 0 → Result (Unit {0}) ReportFault → Type 0
AddsFitting fits IsAdded (Ok done) = IsTrue fits × IsAdded
AddsFitting fits IsAdded (Err Range) = IsTrue (not fits)
AddsFitting fits IsAdded (Err Write) = ⊥
AddsFitting fits IsAdded (Err Memory) = IsTrue fits
