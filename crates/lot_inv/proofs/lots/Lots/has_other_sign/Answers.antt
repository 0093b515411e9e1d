-- Units below zero have the other sign than the lots above it, which are all that aren't below it.
use Rattle.std.proofs.Common.{◌≡◌, ap, sym, ◌∙◌, rules, pos, true, false}
use Rattle.std.specs.Prelude.{int_lt}
use Rattle.std.proofs.Math.Dec.{ltb}
use Rattle.lot_inv.proofs.CountLemmas.{bought_back, none_reduced, reduces_some, sold_off}
use Rattle.lot_inv.proofs.lots.Lots.has_other_sign.Goals as goal

pub returns-then-units-lt0 : goal.returns-then-units-lt0
returns-then-units-lt0 c =
    let units = c.args.units in
    let sold : int_lt units (pos 0) ≡ true = search rules in
    (λ i. ltb (c.self.invariant.counted.counted i) (c.len.ensures.len i))
    ∙ sym (sold_off units c.self.inside.by_key.entries sold c.self.invariant.counted.none_zero) ∙ ap (reduces_some units) c.self.view_is

pub returns-then-units-gt0 : goal.returns-then-units-gt0
returns-then-units-gt0 c =
    let units = c.args.units in
    let bought : int_lt (pos 0) units ≡ true = search rules in
    ap (ltb 0) c.self.invariant.counted.counted
    ∙ sym (bought_back units c.self.inside.by_key.entries bought) ∙ ap (reduces_some units) c.self.view_is

pub returns-else-units-gt0 : goal.returns-else-units-gt0
returns-else-units-gt0 c =
    let units = c.args.units in
    let up : int_lt (pos 0) units ≡ false = search rules in
    let down : int_lt units (pos 0) ≡ false = search rules in
    c.if-units-gt0.false ∙ sym (none_reduced units c.args.self.now up down)
