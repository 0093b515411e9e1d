use Rattle.std.proofs.Common.{◌≡◌, ◌++◌, filter}
use Rattle.std.specs.List.{flat_map, range_with_len}
use Rattle.std.specs.String.{string_bytes}
use Rattle.lot_plot.specs.Bars.{is_written, year_html}
use Rattle.lot_plot.proofs.bars.push_years.Given as goal

-- the first years are appended
abbrev pub invariant-loop-at : goal.invariant-loop-at
invariant-loop-at l =
    string_bytes l.text
    ≡ string_bytes l.initial.text ++ flat_map (year_html l.years) (filter (is_written l.years) (range_with_len 0 l.at))
