use Rattle.std.proofs.Common.{◌≡◌, ◌+◌, take}
use Rattle.lot_csv.specs.Shares.{parts_of}
use Rattle.lot_csv.proofs.ShareLemmas.{parts_in}
use Rattle.lot_csv.proofs.shares.shares.Given as goal

-- the parts of the legs so far, and what is left of the total
abbrev pub invariant-loop-leg : goal.invariant-loop-leg
invariant-loop-leg l = record {
  parts : l.shares.items ≡ parts_of l.price.0 l.sale.units (take l.leg-index l.leg-items);
  left : l.left + parts_in l.total l.units (take l.leg-index l.leg-items) ≡ l.total;
}
