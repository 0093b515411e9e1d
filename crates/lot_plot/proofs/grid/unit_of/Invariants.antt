use Rattle.std.proofs.Common.{◌≡◌, ◌^◌}
use Rattle.lot_plot.proofs.UnitLemmas.{NoneBelow}
use Rattle.lot_plot.proofs.grid.unit_of.Given as goal

-- no round number below the power fits few times
abbrev pub invariant-loop : goal.invariant-loop
invariant-loop l = record { power : l.power ≡ 10 ^ l.counter; none : NoneBelow l.span l.power }
