use Rattle.std.proofs.Common.{◌≡◌, ◌++◌, ◌-◌, ◌≤ℤ◌}
use Rattle.std.specs.List.{flat_map}
use Rattle.std.specs.String.{string_bytes}
use Rattle.lot_plot.specs.Grid.{line_html}
use Rattle.lot_plot.proofs.GridLemmas.{lines_from}
use Rattle.lot_plot.proofs.grid.push_grid.Given as goal

-- what is appended and what is left are all lines
abbrev pub invariant-loop : goal.invariant-loop
invariant-loop l = record {
  lines : string_bytes l.text ++ flat_map (line_html l.scale l.unit) (lines_from (16 - l.counter) l.unit l.high l.value)
      ≡ string_bytes l.initial.text ++ flat_map (line_html l.scale l.unit) (lines_from 16 l.unit l.high l.initial.value);
  reaches : l.scale.low ≤ℤ l.value;
}
