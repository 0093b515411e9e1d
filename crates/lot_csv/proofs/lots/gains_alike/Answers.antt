use Rattle.std.specs.Prelude.{ℤ, map}
use Rattle.std.proofs.Common.{◌∙◌, ◌++◌, ◌∷◌, [], ap, arith, sym}
use Rattle.std.proofs.lemmas.List.{take_all}
use Rattle.lot_cost.specs.declared.lot_key.LotKey.{LotKey}
use Rattle.lot_csv.specs.Shares.{gain_in}
use Rattle.lot_csv.proofs.LotLemmas.{mapped_more}
use Rattle.lot_csv.proofs.lots.gains_alike.Goals as goal

pub loop-leg-preserved : goal.loop-leg-preserved
loop-leg-preserved c =
    c.in_ok-push.ensures.items
    ∙ (λ i. c.loop-leg.invariant i ++ (c.gain_in.ensures ∙ ap (λ units. gain_in units (c.leg-item.result, c.args.price.now)) c.units-units.ensures.value) i ∷ [])
    ∙ sym (mapped_more (λ (leg : LotKey × ℤ). gain_in c.args.sale.now.units (leg, c.args.price.now)) c.legs-legs.result.now c.loop-leg.leg-index c.leg-item.result
    (omega arith) c.leg-item.is)

pub returns : goal.returns
returns c =
    c.loop-leg.invariant
    ∙ ap (map (λ (leg : LotKey × ℤ). gain_in c.args.sale.now.units (leg, c.args.price.now)))
    (take_all c.loop-leg.leg-index c.legs-legs.result.now (omega arith) ∙ c.legs-legs.ensures.value)
