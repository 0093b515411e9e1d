use Rattle.std.specs.Prelude.{None, flat_map, zip}
use Rattle.std.specs.Iterator.Adapters.{zip_first, zip_second}
use Rattle.std.specs.Slice.Iter.{iter_rest}
use Rattle.std.specs.String.{string_bytes}
use Rattle.std.proofs.Common.{◌∙◌, ◌++◌, ap, refl}
use Rattle.std.proofs.lemmas.Slice.Zip.{either_empty_from_Zip}
use Rattle.lot_cells.specs.Sales.{lot_html}
use Rattle.lot_cells.proofs.SaleLemmas.{no_row_left, none_zipped, one_row_more}
use Rattle.lot_cells.proofs.sales.push_lots.Goals as goal

pub loop-leg-init : goal.loop-leg-init
loop-leg-init c =
    let same = c.into_iter-leg-iterator.ensures.into_iter_gives in
    let zipped = c.zip-leg-items.ensures in
    let first = ap (λ zip. iter_rest (zip_first zip)) same ∙ ap iter_rest zipped.first ∙ c.iter.ensures.rest in
    let second = ap (λ zip. iter_rest (zip_second zip)) same ∙ zipped.second.0 in
    λ i. string_bytes c.args.text.now ++ flat_map (lot_html c.args.target.now c.args.sale.now) (zip (first i) (second i))

pub loop-leg-preserved : goal.loop-leg-preserved
loop-leg-preserved c =
    one_row_more (lot_html c.args.target.now c.args.sale.now)
    _ _ _ _ _ _ c.loop-leg.invariant (λ i. zip (c.in-Some.ensures.steps.0 i) (c.in-Some.ensures.steps.1 i)) c.in_ok-push_lot.ensures

pub returns : goal.returns
returns c =
    no_row_left (lot_html c.args.target.now c.args.sale.now) _ _ _ c.loop-leg.invariant
    (none_zipped _ _ (either_empty_from_Zip c.loop-leg.leg-iterator c.next.new.self None refl c.in-None.ensures.steps))
