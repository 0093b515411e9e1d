-- The units and the commodity are within their rules, and a part of the cost or of the price isn't.
use Rattle.std.proofs.Common.{◌++◌}
use Rattle.std.specs.Prelude.{option_map}
use Rattle.std.proofs.lemmas.Result.{err_from_is_err_and}
use Rattle.lot_syntax.specs.Shape.{cost_seen, price_seen}
use Rattle.lot_read.specs.Meaning.{cost_items, price_items, listed_by, units_item, commodity_item}
use Rattle.lot_read.proofs.ItemLemmas.{outside_third, outside_before, outside_behind}
use Rattle.lot_read.proofs.posting_line.CheckedAmount.new.Goals as goal

pub returns-in_err-perhaps-clause-outside : goal.returns-in_err-perhaps-clause-outside
returns-in_err-perhaps-clause-outside c =
    let form = c.args.form.now in
    let cost = listed_by cost_items (option_map cost_seen form.cost) in
    let price = listed_by price_items (option_map price_seen form.price) in
    let first = outside_before cost price c.in_err-perhaps.field-0.0 c.in_err-perhaps.ensures.outside in
    let p = err_from_is_err_and c.from_residual-in_err-perhaps.result c.from_residual-in_err-perhaps.ensures.1 in
    rw (p.1, p.2) (outside_third (units_item form.units.now) (commodity_item form.commodity.now) (cost ++ price) c.in_err-perhaps.field-0.0
    (c.in_ok-units.field-0, c.in_ok-units.ensures.means) (_, c.in_ok-new.ensures.means) first)

pub returns-in_err-perhaps-2-clause-outside : goal.returns-in_err-perhaps-2-clause-outside
returns-in_err-perhaps-2-clause-outside c =
    let form = c.args.form.now in
    let cost = listed_by cost_items (option_map cost_seen form.cost) in
    let price = listed_by price_items (option_map price_seen form.price) in
    let first = outside_behind cost price c.in_err-perhaps-2.field-0.0 c.in_ok-perhaps.ensures.inside c.in_err-perhaps-2.ensures.outside in
    let p = err_from_is_err_and c.from_residual-in_err-perhaps-2.result c.from_residual-in_err-perhaps-2.ensures.1 in
    rw (p.1, p.2) (outside_third (units_item form.units.now) (commodity_item form.commodity.now) (cost ++ price) c.in_err-perhaps-2.field-0.0
    (c.in_ok-units.field-0, c.in_ok-units.ensures.means) (_, c.in_ok-new.ensures.means) first)
