use Rattle.std.proofs.Common.{◌≡◌, ◌++◌, take}
use Rattle.std.specs.Prelude.{map, neg_ℤ}
use Rattle.lot_split.specs.declared.lot.HeldLot.{HeldLot}
use Rattle.lot_split.specs.Split.{braced, parts_of}
use Rattle.lot_split.proofs.transaction.push_each_taking.Given as goal

-- the lots so far are taken
abbrev pub invariant-loop-lot : goal.invariant-loop-lot
invariant-loop-lot l = l.postings ≡ l.initial.postings ++ map (λ (lot : HeldLot). braced l.asked (neg_ℤ lot.units) (parts_of lot.key)) (take l.lot-index l.lots)
