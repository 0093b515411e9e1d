use Rattle.std.proofs.Common.{◌≡◌, ◌++◌, filter}
use Rattle.std.specs.List.{flat_map, range_with_len}
use Rattle.std.specs.String.{string_bytes}
use Rattle.lot_plot.specs.Lines.{is_written_year, year_html}
use Rattle.lot_plot.proofs.lines.push_each_year.Given as goal

-- what is written below the first months is appended
abbrev pub invariant-loop-at : goal.invariant-loop-at
invariant-loop-at l =
    string_bytes l.text
    ≡ string_bytes l.initial.text
    ++ flat_map (year_html l.first.0 l.count) (filter (is_written_year l.first.0 l.count) (range_with_len 0 l.at))
