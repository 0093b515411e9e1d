use Rattle.std.specs.Prelude.{ℤ, None, Some, map, zip}
use Rattle.std.specs.Iterator.Adapters.{zip_first, zip_second}
use Rattle.std.specs.Slice.Iter.{iter_rest}
use Rattle.std.proofs.Common.{◌∙◌, ◌++◌, ap, append-nil, refl, sym}
use Rattle.std.proofs.lemmas.Slice.Zip.{either_empty_from_Zip}
use Rattle.lot_cost.specs.declared.lot_key.LotKey.{LotKey}
use Rattle.lot_csv.specs.Shares.{gain_in}
use Rattle.lot_csv.specs.declared.shares.LotPrice.TheVariants.{Share}
use Rattle.lot_csv.proofs.LotLemmas.{one_gain_more}
use Rattle.lot_csv.proofs.SumLemmas.{none_zipped}
use Rattle.lot_csv.proofs.lots.gains_shared.Goals as goal

pub loop-leg-init : goal.loop-leg-init
loop-leg-init c =
    let same = c.into_iter-leg-iterator.ensures.into_iter_gives in
    let zipped = c.zip-leg-items.ensures in
    let first = ap (λ zip. iter_rest (zip_first zip)) same ∙ ap iter_rest zipped.first ∙ c.iter.ensures.rest ∙ c.legs-legs.ensures.value in
    let second = ap (λ zip. iter_rest (zip_second zip)) same ∙ zipped.second.0 in
    let gain = λ (shared : (LotKey × ℤ) × ℤ). gain_in c.args.sale.now.units (shared.0, Some (Share shared.1)) in
    λ i. c.new-gains.ensures.items i ++ map gain (zip (first i) (second i))

pub loop-leg-preserved : goal.loop-leg-preserved
loop-leg-preserved c =
    let gain = λ (shared : (LotKey × ℤ) × ℤ). gain_in c.args.sale.now.units (shared.0, Some (Share shared.1)) in
    let one = c.gain_in.ensures ∙ ap (λ units. gain_in units (c.in-Some.leg.now, Some (Share c.in-Some.share.now))) c.units-units.ensures.value in
    one_gain_more gain _ _ _ _ _ _ _ c.loop-leg.invariant (λ i. zip (c.in-Some.ensures.steps.0 i) (c.in-Some.ensures.steps.1 i)) one c.in_ok-push.ensures.items

pub returns : goal.returns
returns c =
    let gain = λ (shared : (LotKey × ℤ) × ℤ). gain_in c.args.sale.now.units (shared.0, Some (Share shared.1)) in
    let none = none_zipped _ _ (either_empty_from_Zip c.loop-leg.leg-iterator c.next.new.self None refl c.in-None.ensures.steps) in
    sym (append-nil c.loop-leg.gains.items) ∙ ap (λ left. c.loop-leg.gains.items ++ map gain left) (sym none) ∙ c.loop-leg.invariant
