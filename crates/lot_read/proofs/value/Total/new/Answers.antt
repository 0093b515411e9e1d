-- A total isn't below zero.
use Rattle.std.proofs.Common.{sym, ◌∙◌}
use Rattle.lot_read.proofs.PartLemmas.{total_not_negative}
use Rattle.lot_read.proofs.value.Total.new.Goals as goal

pub invariant_of-result : goal.invariant_of-result
invariant_of-result c = total_not_negative c.args.part.now c.in-Ok.units (sym c.parse_total.ensures ∙ c.in-Ok.is)
