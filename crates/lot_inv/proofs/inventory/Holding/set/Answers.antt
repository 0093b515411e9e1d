-- A lot that is set leaves the others as they were.
use Rattle.std.specs.Ordering.{is_eq}
use Rattle.lot_cost.specs.LotKey.{lot_cmp}
use Rattle.lot_inv.specs.Lots.{lot_at}
use Rattle.lot_inv.proofs.SetLemmas.{nonzero_when_set}
use Rattle.lot_inv.proofs.inventory.Holding.set.Goals as goal

pub returns-in_ok-set-in-Some-clause-holding : goal.returns-in_ok-set-in-Some-clause-holding
returns-in_ok-set-in-Some-clause-holding c = record {
  sorted = c.set.ensures.ordered;
  nonzero = λ other. nonzero_when_set (is_eq (lot_cmp c.in-Some.key.now other)) c.args.units c.args.opening (lot_at c.args.self.now.lots other) (lot_at c.set.new.self other)
      (c.in_ok-set-in-Some.ensures.each other) (c.requires.nonzero other);
}
