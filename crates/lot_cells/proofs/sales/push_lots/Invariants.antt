use Rattle.std.proofs.Common.{◌≡◌, ◌++◌}
use Rattle.std.specs.Prelude.{flat_map, zip}
use Rattle.std.specs.Iterator.Adapters.{zip_first, zip_second}
use Rattle.std.specs.Slice.Iter.{iter_rest}
use Rattle.std.specs.String.{string_bytes}
use Rattle.lot_cells.specs.Sales.{lot_html}
use Rattle.lot_cells.proofs.sales.push_lots.Given as goal

-- what is appended and the rows that are left are all rows
abbrev pub invariant-loop-leg : goal.invariant-loop-leg
invariant-loop-leg l =
    string_bytes l.text ++ flat_map (lot_html l.target l.sale) (zip (iter_rest (zip_first l.leg-iterator)) (iter_rest (zip_second l.leg-iterator)))
    ≡ string_bytes l.initial.text ++ flat_map (lot_html l.target l.sale) (zip l.legs l.gains)
