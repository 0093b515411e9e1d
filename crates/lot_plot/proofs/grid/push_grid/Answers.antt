use lib.Signed.{◌<ℤ◌, ◌≤ℤ◌}
use mir.Syntax.{w128}
use mir.Val.{SFits, to_z}
use Rattle.std.specs.Prelude.{pos, ◌+ℤ◌}
use Rattle.std.proofs.Common.{◌≡◌, ◌++◌, ◌+◌, ◌-◌, suc, subst, sym, ap, ◌∙◌, arith}
use Rattle.std.specs.List.{flat_map}
use Rattle.std.specs.String.{string_bytes}
use Rattle.std.proofs.lemmas.Int.{ints, to_z-of_z}
use Rattle.lot_plot.specs.Grid.{IsFirstFrom, line_html}
use Rattle.lot_plot.proofs.GridLemmas.{at_most, cast, grid_is, line_more, lines_from, no_line_left, no_line_more, sum_fits, unit_at, unit_counts}
use Rattle.lot_plot.proofs.grid.push_grid.Goals as goal

pub overflow_cast-unit : goal.overflow_cast-unit
overflow_cast-unit c =
    let scale = c.args.scale.now in
    let unit = c.unit_of-unit.result in
    let fits_low : SFits w128 c.mantissa-low.result = record { sfits = c.mantissa-low.type_inv } in
    let fits_high : SFits w128 c.mantissa-high.result = record { sfits = c.mantissa-high.type_inv } in
    let is = unit_at scale c.mantissa-low.result c.mantissa-high.result c.abs_diff.result unit c.mantissa-low.ensures.value
    c.mantissa-high.ensures.value fits_low fits_high c.abs_diff.ensures c.unit_of-unit.ensures in
    let counts = unit_counts scale unit is c.mantissa-low.ensures.in_range c.mantissa-high.ensures.in_range in
    record { sfits = omega (arith, counts.small) }

pub first_from-value-requires-clause-some : goal.first_from-value-requires-clause-some
first_from-value-requires-clause-some c =
    let scale = c.args.scale.now in
    let unit = c.unit_of-unit.result in
    let fits_low : SFits w128 c.mantissa-low.result = record { sfits = c.mantissa-low.type_inv } in
    let fits_high : SFits w128 c.mantissa-high.result = record { sfits = c.mantissa-high.type_inv } in
    let is = unit_at scale c.mantissa-low.result c.mantissa-high.result c.abs_diff.result unit c.mantissa-low.ensures.value
    c.mantissa-high.ensures.value fits_low fits_high c.abs_diff.ensures c.unit_of-unit.ensures in
    let counts = unit_counts scale unit is c.mantissa-low.ensures.in_range c.mantissa-high.ensures.in_range in
    subst (λ z. pos 0 <ℤ z) (sym counts.signed) (omega (arith, ints, counts.some))

pub first_from-value-requires-clause-small : goal.first_from-value-requires-clause-small
first_from-value-requires-clause-small c =
    let scale = c.args.scale.now in
    let unit = c.unit_of-unit.result in
    let fits_low : SFits w128 c.mantissa-low.result = record { sfits = c.mantissa-low.type_inv } in
    let fits_high : SFits w128 c.mantissa-high.result = record { sfits = c.mantissa-high.type_inv } in
    let is = unit_at scale c.mantissa-low.result c.mantissa-high.result c.abs_diff.result unit c.mantissa-low.ensures.value
    c.mantissa-high.ensures.value fits_low fits_high c.abs_diff.ensures c.unit_of-unit.ensures in
    let counts = unit_counts scale unit is c.mantissa-low.ensures.in_range c.mantissa-high.ensures.in_range in
    subst (λ z. z ≤ℤ pos 50000000000000000000000000000000000000) (sym counts.signed) (omega (arith, ints, counts.small))

pub returns-then-high-value : goal.returns-then-high-value
returns-then-high-value c =
    let scale = c.args.scale.now in
    let unit = c.unit_of-unit.result in
    let fits_low : SFits w128 c.mantissa-low.result = record { sfits = c.mantissa-low.type_inv } in
    let fits_high : SFits w128 c.mantissa-high.result = record { sfits = c.mantissa-high.type_inv } in
    let is = unit_at scale c.mantissa-low.result c.mantissa-high.result c.abs_diff.result unit c.mantissa-low.ensures.value
    c.mantissa-high.ensures.value fits_low fits_high c.abs_diff.ensures c.unit_of-unit.ensures in
    let counts = unit_counts scale unit is c.mantissa-low.ensures.in_range c.mantissa-high.ensures.in_range in
    let value = to_z w128 c.loop.value-bits in
    let high : cast c.mantissa-high.result ≡ scale.high = to_z-of_z w128 c.mantissa-high.result fits_high ∙ c.mantissa-high.ensures.value in
    let first = c.first_from-value.result in
    let fits_first : SFits w128 first = record { sfits = c.first_from-value.type_inv } in
    grid_is scale unit (cast c.mantissa-high.result) first (cast first) (string_bytes c.loop.text) (string_bytes c.args.text.now) is counts.some
    (subst (λ z. IsFirstFrom scale.low z first) counts.signed c.first_from-value.ensures) high (to_z-of_z w128 first fits_first)
    (no_line_more (line_html scale unit) (16 - c.loop.counter) unit (cast c.mantissa-high.result) value _ _ c.if-high-value.true c.loop.invariant.lines)

pub overflow_cast-value : goal.overflow_cast-value
overflow_cast-value c =
    let scale = c.args.scale.now in
    let unit = c.unit_of-unit.result in
    let fits_low : SFits w128 c.mantissa-low.result = record { sfits = c.mantissa-low.type_inv } in
    let fits_high : SFits w128 c.mantissa-high.result = record { sfits = c.mantissa-high.type_inv } in
    let is = unit_at scale c.mantissa-low.result c.mantissa-high.result c.abs_diff.result unit c.mantissa-low.ensures.value
    c.mantissa-high.ensures.value fits_low fits_high c.abs_diff.ensures c.unit_of-unit.ensures in
    let counts = unit_counts scale unit is c.mantissa-low.ensures.in_range c.mantissa-high.ensures.in_range in
    record { sfits = omega (arith, counts.small) }

pub overflow_add-value : goal.overflow_add-value
overflow_add-value c =
    let scale = c.args.scale.now in
    let unit = c.unit_of-unit.result in
    let fits_low : SFits w128 c.mantissa-low.result = record { sfits = c.mantissa-low.type_inv } in
    let fits_high : SFits w128 c.mantissa-high.result = record { sfits = c.mantissa-high.type_inv } in
    let is = unit_at scale c.mantissa-low.result c.mantissa-high.result c.abs_diff.result unit c.mantissa-low.ensures.value
    c.mantissa-high.ensures.value fits_low fits_high c.abs_diff.ensures c.unit_of-unit.ensures in
    let counts = unit_counts scale unit is c.mantissa-low.ensures.in_range c.mantissa-high.ensures.in_range in
    let value = to_z w128 c.loop.value-bits in
    let high : cast c.mantissa-high.result ≡ scale.high = to_z-of_z w128 c.mantissa-high.result fits_high ∙ c.mantissa-high.ensures.value in
    let most = at_most (cast c.mantissa-high.result) value c.if-high-value.false in
    subst (λ z. SFits w128 (value +ℤ z)) (sym counts.signed)
    (sum_fits scale.low value scale.high unit c.mantissa-low.ensures.in_range c.mantissa-high.ensures.in_range c.loop.invariant.reaches
    (subst (λ z. value ≤ℤ z) high most) counts.small)

pub loop-preserved : goal.loop-preserved
loop-preserved c =
    let scale = c.args.scale.now in
    let unit = c.unit_of-unit.result in
    let fits_low : SFits w128 c.mantissa-low.result = record { sfits = c.mantissa-low.type_inv } in
    let fits_high : SFits w128 c.mantissa-high.result = record { sfits = c.mantissa-high.type_inv } in
    let is = unit_at scale c.mantissa-low.result c.mantissa-high.result c.abs_diff.result unit c.mantissa-low.ensures.value
    c.mantissa-high.ensures.value fits_low fits_high c.abs_diff.ensures c.unit_of-unit.ensures in
    let counts = unit_counts scale unit is c.mantissa-low.ensures.in_range c.mantissa-high.ensures.in_range in
    let value = to_z w128 c.loop.value-bits in
    let high : cast c.mantissa-high.result ≡ scale.high = to_z-of_z w128 c.mantissa-high.result fits_high ∙ c.mantissa-high.ensures.value in
    let most = at_most (cast c.mantissa-high.result) value c.if-high-value.false in
    let fits = sum_fits scale.low value scale.high unit c.mantissa-low.ensures.in_range c.mantissa-high.ensures.in_range
    c.loop.invariant.reaches (subst (λ z. value ≤ℤ z) high most) counts.small in
    let next : cast (value +ℤ to_z w128 unit) ≡ value +ℤ pos unit =
    ap (λ z. cast (value +ℤ z)) counts.signed ∙ to_z-of_z w128 (value +ℤ pos unit) fits in
    let html = line_html scale unit in
    let all = string_bytes c.args.text.now ++ flat_map html (lines_from 16 unit (cast c.mantissa-high.result) (cast c.first_from-value.result)) in
    let count : 16 - c.loop.counter ≡ suc (16 - (c.loop.counter + 1)) = omega arith in
    let was = subst (λ n. string_bytes c.loop.text ++ flat_map html (lines_from n unit (cast c.mantissa-high.result) value) ≡ all) count
    c.loop.invariant.lines in
    let line = c.in_ok-push_line.ensures ∙ ap (λ z. string_bytes c.loop.text ++ html z) c.in-Some.ensures.1 in
    let more = line_more html (16 - (c.loop.counter + 1)) unit (cast c.mantissa-high.result) value _ _ all c.if-high-value.false was line in
    record {
      lines = subst (λ z. string_bytes c.push_line.new.text ++ flat_map html (lines_from (16 - (c.loop.counter + 1)) unit (cast c.mantissa-high.result) z) ≡ all) (sym next) more;
      reaches = subst (λ z. scale.low ≤ℤ z) (sym next) (omega (arith, ints, c.loop.invariant.reaches));
    }

pub returns : goal.returns
returns c =
    let scale = c.args.scale.now in
    let unit = c.unit_of-unit.result in
    let fits_low : SFits w128 c.mantissa-low.result = record { sfits = c.mantissa-low.type_inv } in
    let fits_high : SFits w128 c.mantissa-high.result = record { sfits = c.mantissa-high.type_inv } in
    let is = unit_at scale c.mantissa-low.result c.mantissa-high.result c.abs_diff.result unit c.mantissa-low.ensures.value
    c.mantissa-high.ensures.value fits_low fits_high c.abs_diff.ensures c.unit_of-unit.ensures in
    let counts = unit_counts scale unit is c.mantissa-low.ensures.in_range c.mantissa-high.ensures.in_range in
    let value = to_z w128 c.loop.value-bits in
    let high : cast c.mantissa-high.result ≡ scale.high = to_z-of_z w128 c.mantissa-high.result fits_high ∙ c.mantissa-high.ensures.value in
    let first = c.first_from-value.result in
    let fits_first : SFits w128 first = record { sfits = c.first_from-value.type_inv } in
    grid_is scale unit (cast c.mantissa-high.result) first (cast first) (string_bytes c.loop.text) (string_bytes c.args.text.now) is counts.some
    (subst (λ z. IsFirstFrom scale.low z first) counts.signed c.first_from-value.ensures) high (to_z-of_z w128 first fits_first)
    (no_line_left (line_html scale unit) (16 - c.loop.counter) unit (cast c.mantissa-high.result) value _ _ (omega arith) c.loop.invariant.lines)
