use Rattle.std.specs.Prelude.{None, map, zip}
use Rattle.std.specs.Iterator.Adapters.{zip_first, zip_second}
use Rattle.std.specs.Slice.Iter.{iter_rest}
use Rattle.std.proofs.Common.{◌∙◌, ◌∷◌, ◌++◌, [], ap, refl, sym}
use Rattle.std.proofs.lemmas.Result.{err_from_is_err_and}
use Rattle.std.proofs.lemmas.Slice.Zip.{either_empty_from_Zip}
use Rattle.lot_tally.specs.Lots.{counted, sale_lots}
use Rattle.lot_tally.specs.Table.{HasRows}
use Rattle.lot_tally.proofs.RowLemmas.{all_lots_in, lot_stops, no_lot_yet, none_zipped, one_lot_more}
use Rattle.lot_tally.proofs.counted.add_lots.Goals as goal

pub returns-in_err-gains : goal.returns-in_err-gains
returns-in_err-gains c lots has =
    let fault = err_from_is_err_and c.from_residual.result c.from_residual.ensures.1 in rw (fault.1, fault.2) tt

pub returns-in_err-key : goal.returns-in_err-key
returns-in_err-key c lots has =
    let fault = err_from_is_err_and c.from_residual-in_err-key.result c.from_residual-in_err-key.ensures.1 in rw (fault.1, fault.2) tt

pub loop-leg-init : goal.loop-leg-init
loop-leg-init c =
    let same = c.into_iter-leg-iterator.ensures.into_iter_gives in
    let zipped = c.zip-leg-items.ensures in
    let first = ap (λ zip. iter_rest (zip_first zip)) same ∙ ap iter_rest zipped.first ∙ c.iter.ensures.rest ∙ c.legs-legs.ensures.value in
    let second = ap (λ zip. iter_rest (zip_second zip)) same ∙ zipped.second.0 ∙ c.in_ok-gains.ensures in
    no_lot_yet _ _ c.args.rows.now (λ i. map (counted c.args.by.now c.args.form c.args.sale.now) (zip (sym first i) (sym second i)))

pub loop-leg-preserved : goal.loop-leg-preserved
loop-leg-preserved c =
    let lot_of = counted c.args.by.now c.args.form c.args.sale.now in
    let lot = lot_of (c.in-Some.leg.now, c.in-Some.gain.now) in
    one_lot_more _ _ _ lot c.args.rows.now c.loop-leg.rows c.add_lot.new.rows c.loop-leg.invariant
    (λ i. map lot_of (zip (c.in-Some.ensures.steps.0 i) (c.in-Some.ensures.steps.1 i)))
    (λ lots has. c.in_ok-add_lot.ensures lots lot
    (λ i. record { row = sym c.in_ok-key.ensures i; cost = sym c.lot_cost.ensures.value i; gain = c.in-Some.gain.now }) has)

pub returns-in_err-add_lot : goal.returns-in_err-add_lot
returns-in_err-add_lot c lots has =
    let lot_of = counted c.args.by.now c.args.form c.args.sale.now in
    let lot = lot_of (c.in-Some.leg.now, c.in-Some.gain.now) in
    let fault = err_from_is_err_and c.from_residual-in_err-add_lot.result c.from_residual-in_err-add_lot.ensures.1 in
    rw (fault.1, fault.2)
    (lot_stops _ _ _ lots lot c.args.rows.now c.loop-leg.rows (λ before. HasRows (before ++ lot ∷ []) c.add_lot.new.rows) (Unit {0}) c.in_err-add_lot.field-0.0 c.loop-leg.invariant
    (λ i. map lot_of (zip (c.in-Some.ensures.steps.0 i) (c.in-Some.ensures.steps.1 i))) has
    (λ before kept. c.in_err-add_lot.ensures before lot
    (λ i. record { row = sym c.in_ok-key.ensures i; cost = sym c.lot_cost.ensures.value i; gain = c.in-Some.gain.now }) kept))

pub returns : goal.returns
returns c lots has =
    let none = none_zipped _ _ (either_empty_from_Zip c.loop-leg.leg-iterator c.next.new.self None refl c.in-None.ensures.steps) in
    all_lots_in (sale_lots c.args.by.now c.args.form c.args.sale.now) _ lots c.args.rows.now c.loop-leg.rows c.loop-leg.invariant
    (ap (map (counted c.args.by.now c.args.form c.args.sale.now)) none) has
