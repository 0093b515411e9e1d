-- One more leg adds its units.
use Rattle.std.proofs.Common.{ℤ, arith}
use Rattle.std.proofs.lemmas.Int.{ints}
use Rattle.lot_cost.specs.declared.lot_key.LotKey.{LotKey}
use Rattle.lot_book.proofs.GainSums.{sum_over_more}
use Rattle.lot_book.proofs.sale.units_in.Goals as goal

pub loop-leg-preserved : goal.loop-leg-preserved
loop-leg-preserved c =
    let legs = c.args.legs.now in
    let i = c.loop-leg.leg-index in
    let leg = c.leg-item.result in
    let more = sum_over_more (λ (l : LotKey × ℤ). l.1) legs i leg (omega arith) c.leg-item.is in
    record {
      sum = omega (arith, ints);
      room = omega (arith, ints);
    }
