use Rattle.std.proofs.Common.{◌≡◌, ◌++◌, take}
use Rattle.std.specs.List.{flat_map}
use Rattle.std.specs.String.{string_bytes}
use Rattle.lot_plot.specs.Bars.{bar_html}
use Rattle.lot_plot.proofs.bars.push_each_bar.Given as goal

-- the first bars are appended
abbrev pub invariant-loop-bar : goal.invariant-loop-bar
invariant-loop-bar l =
    string_bytes l.text ≡ string_bytes l.initial.text ++ flat_map (bar_html l.scale l.years) (take l.bar-index l.bars)
