use Rattle.std.proofs.Common.{sym, subst}
use Rattle.lot_compare.specs.Sums.{AreSums, with_more}
use Rattle.lot_compare.proofs.AmountLemmas.{one_amount}
use Rattle.lot_compare.proofs.amounts.add_sale.Goals as goal

pub returns-clause-added : goal.returns-clause-added
returns-clause-added c amounts sums =
    subst (λ more. AreSums (with_more c.args.side amounts more) c.add_gain.new.sums.sums.entries)
    (sym (one_amount c.args.sale.now c.in-Some.currency.now c.in-Some.gain c.day.result (sym (rw c.in-Some.is at c.priced.ensures)) c.day.ensures))
    (c.in_ok-add_gain.ensures.added amounts sums)
