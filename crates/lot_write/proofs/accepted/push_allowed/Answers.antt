use Rattle.std.proofs.Common.{ap, rules, ◌+◌}
use Rattle.lot_write.proofs.RowLemmas.{allowed_next}
use Rattle.lot_write.proofs.accepted.push_allowed.Goals as goal

pub loop-currency-preserved : goal.loop-currency-preserved
loop-currency-preserved c =
    let loop = c.loop-currency in
    record {
      place = ap (λ n. n + 1) loop.invariant.place;
      rows = allowed_next c.args.account.now c.args.currencies.now loop.currency-index loop.place c.currency-item.result _ c.args.writes.now.items loop.writes.items c.push.new.self.items
          c.loop-currency-test.true c.currency-item.is loop.invariant.place loop.invariant.rows (search rules);
    }
