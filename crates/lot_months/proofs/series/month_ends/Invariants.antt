use Rattle.std.proofs.Common.{◌≡◌, map}
use Rattle.std.specs.List.{range_with_len}
use Rattle.std.specs.Option.{option_copied}
use Rattle.lot_months.specs.Ends.{begin_of, end_of}
use Rattle.lot_months.proofs.series.month_ends.Given as goal

-- the ends of the months so far, of which the last one is kept
abbrev pub invariant-loop-at : goal.invariant-loop-at
invariant-loop-at l = record {
  ends : l.ends.items ≡ map (end_of l.months (option_copied l.rates)) (range_with_len 0 l.at);
  held : l.held ≡ (begin_of l.months (option_copied l.rates) l.at).held;
  price : l.price ≡ (begin_of l.months (option_copied l.rates) l.at).price;
}
