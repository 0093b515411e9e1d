use Rattle.std.proofs.Common.{◌≡◌, ◌++◌, map}
use Rattle.lot_tally.specs.Table.{shown}
use Rattle.lot_page_report.specs.Sections.{bars_of}
use Rattle.lot_page_report.proofs.sums.bars_of.Given as goal

-- the bars so far, and those of what is left, are all of them
abbrev pub invariant-loop-key : goal.invariant-loop-key
invariant-loop-key l =
    l.bars.items ++ bars_of l.currency (map shown l.key-iterator) ≡ bars_of l.currency (map shown l.rows.entries)
