use Rattle.std.proofs.Common.{refl, sym}
use Rattle.std.specs.Prelude.{false}
use Rattle.lot_report.proofs.GainLemmas.{takes_priced, takes_unpriced}
use Rattle.lot_report.proofs.gains.GainSums.take_gain.Goals as goal

pub returns-in-Some-clause-counts : goal.returns-in-Some-clause-counts
returns-in-Some-clause-counts c sales taken =
    takes_priced sales c.args.sale.now c.in-Some.currency.now c.in-Some.gain
    (record { alloc = c.args.self.now.alloc; is_empty = false; gains = c.add.new.self })
    c.add.result (sym (rw c.in-Some.is at c.priced.ensures))
    (c.add.ensures.added _ taken.1) (c.add.ensures.fits _ taken.1) (c.add.ensures.range _ taken.1) (c.add.ensures.memory _ taken.1) c.add.ensures.cause refl

pub returns-in-None-clause-counts : goal.returns-in-None-clause-counts
returns-in-None-clause-counts c sales taken =
    takes_unpriced sales c.args.sale.now (record { alloc = c.args.self.now.alloc; is_empty = false; gains = c.args.self.now.gains })
    (sym (rw c.in-None.is at c.priced.ensures)) taken.1 refl
