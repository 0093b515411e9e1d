use Rattle.std.proofs.Common.{refl}
use Rattle.std.specs.Prelude.{false}
use Rattle.lot_report.proofs.HoldingLemmas.{plain_counts, row_counts}
use Rattle.lot_report.proofs.holdings.HoldingSums.count.Goals as goal

pub returns-in-Some-clause-counts : goal.returns-in-Some-clause-counts
returns-in-Some-clause-counts c rows taken =
    row_counts rows c.args.row.now c.in-Some.lot c.price.result c.count_lot.new.self c.count_lot.result c.in-Some.is c.price.ensures
    (c.count_lot.ensures.sums _ _ taken.1 taken.2) c.count_lot.ensures.rest

pub returns-in-None-clause-counts : goal.returns-in-None-clause-counts
returns-in-None-clause-counts c rows taken =
    plain_counts rows c.args.row.now
    (record { alloc = c.args.self.now.alloc; is_empty = false; costs = c.args.self.now.costs; values = c.args.self.now.values })
    c.in-None.is taken.1 taken.2 refl
