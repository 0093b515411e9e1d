use Rattle.std.proofs.Common.{◌≡◌, ℕ, List}
use Rattle.std.specs.List.Sorted.{IsStrictlySortedBy}
use Rattle.std.specs.Map.{keys_of}
use Rattle.lot_book.specs.Leg.{position_cmp}
use Rattle.lot_book.specs.Openings.{HaveSameOpenings, with_listed}
use Rattle.lot_book.specs.Recorded.{with_rows}
use Rattle.lot_view.specs.View.{held_in, openings_in}
use Rattle.lot_view.proofs.view.keep_held.Given as goal

-- the inventories so far with what is left are those with all; with the numbers that are listed, the lots that hold something
-- in these have those numbers, or else their own
abbrev pub invariant-loop-position : goal.invariant-loop-position
invariant-loop-position l = record {
  all : (account : List ℕ)
      → with_rows account (held_in l.held account) l.position-iterator
      ≡ with_rows account (held_in l.fn.held account) l.fn.listed.entries;
  openings : (account commodity : List ℕ)
      → HaveSameOpenings commodity (with_rows account (held_in l.fn.held account) l.fn.listed.entries)
      (with_listed l.fn.openings (openings_in l.fn.held) account commodity)
      (with_listed l.fn.openings (openings_in l.held) account commodity);
  left : IsStrictlySortedBy position_cmp (keys_of l.position-iterator);
}
