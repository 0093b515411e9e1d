use Rattle.std.proofs.Common.{◌≡◌, take}
use Rattle.std.specs.List.{range_with_len}
use Rattle.lot_cli.proofs.run.in_a_row.Given as goal

abbrev pub invariant-numbers : goal.invariant-numbers
invariant-numbers l = take l.index l.numbers ≡ range_with_len l.from l.index
